-- How a turn begins and ends, and how seats come and go.
use Rattle.ref_turn.proofs.Common.{◌≡◌, ◌≢◌, zero, suc, ◌^◌, ◌<◌, ◌⊎◌, inr, ⊎_elim, refl, sym, ap, ◌∙◌, [], ◌∷◌, ◌++◌}
use Rattle.ref_turn.proofs.Common.{length, set, length-append, subst, arith, Some, some-injective, some-ne-none, State}
use Rattle.ref_turn.proofs.Common.{opening, Idle, Spent, View, Option, calls_by, Reaches, IsOpen, Knows, SeatOk}
use Rattle.ref_turn.proofs.Common.{first_view, EndsAs, IsLegalLog}
use Rattle.std.proofs.Common.{◌+◌, ℕ, inl, List, le_refl}
use Rattle.atomic_table.specs.Table.{Splits, Joins, Final, Seen}
use Rattle.ref_turn.specs.declared.history.Origin.{Origin}
use Rattle.ref_turn.specs.Rule.{Turned}
use Rattle.ref_turn.specs.Seats.{IsLeftOpen}
use Rattle.ref_turn.specs.Steps.{split_view, taken_in, spent_view}
use Rattle.atomic_table.proofs.Lists.{set_here, set_else, set_again, at_longer}
use Rattle.ref_turn.proofs.Logs.{starts_self, reaches_start, reaches_legal}
use Rattle.ref_turn.proofs.Stays.{at_below, differs, knows_more, none_open, settled}
use mathlib.Core.Option.{some}
use lib.ListN.{get_elem?}

module _ {A : Type 0} where
  -- an element of a list with one more is an old one, or the new one, which stands at the end
  at_end : (l : List A) (a b : A) (j : ℕ) → get_elem? (l ++ a ∷ []) j ≡ some b
      → (get_elem? l j ≡ some b) ⊎ ((j ≡ length l) × (a ≡ b))
  at_end [] a b zero at = inr (refl, some-injective a b at)
  at_end [] a b (suc j) at = absurd (some-ne-none b (sym at))
  at_end (x ∷ xs) a b zero at = inl at
  at_end (x ∷ xs) a b (suc j) at =
      ⊎_elim (λ old. inl old) (λ new. inr (omega (arith, new.0), new.1)) (at_end xs a b j at)

  set_swap : (l : List A) (i j : ℕ) (a b : A) → i ≢ j → set (set l i a) j b ≡ set (set l j b) i a
  set_swap [] i j a b apart = refl
  set_swap (x ∷ xs) zero zero a b apart = absurd (apart refl)
  set_swap (x ∷ xs) zero (suc j) a b apart = refl
  set_swap (x ∷ xs) (suc i) zero a b apart = refl
  set_swap (x ∷ xs) (suc i) (suc j) a b apart = λ n. x ∷ set_swap xs i j a b (λ is. apart (ap suc is)) n

module _ {M X S R : Type 0} (stands_for : M → X → Type 0) (steps_to : X → S → R → X → Type 0) where
  abbrev V : Type 0
  V = View M S R

  abbrev St : Type 0
  St = State (Option M) V

  abbrev Rule : Origin M → St → Type 0
  Rule = Turned stands_for steps_to

  -- a new seat is cut off
  pub splits : (k : Origin M) (id : ℕ) (v : V) → v.stage ≡ Idle → Splits (Rule k) id v v (split_view v)
  splits k id v idle s r at =
      let w : V = split_view v in let views : List V = s.views ++ w ∷ [] in
      let unspent : v.stage ≢ Spent = λ is. differs Idle tt (sym idle ∙ is) in
      let was = r.each_seat id v at in
      let own = subst (Knows r.log r.served r.tickets s.views id v) idle was.knows in
      let below = at_below s.views id v at in
      let split : Rule k record { words = s.words; homes = s.homes; views = views } = record {
        log = r.log;
        served = r.served;
        tickets = r.tickets;
        words_are = r.words_are;
        counted = r.counted;
        behind = r.behind;
        small = r.small;
        legal = r.legal;
        home = λ none. r.home (λ j u at'. none j u (at_longer s.views (w ∷ []) j u at'));
        each_seat = λ j u at'. ⊎_elim
            (λ old. let ok = r.each_seat j u old in record {
              first = ok.first;
              start = ok.start;
              seen = ok.seen;
              drawn = ok.drawn;
              knows = knows_more r.log r.served r.tickets s.views j u r.tickets views u.stage (le_refl r.tickets)
                  (λ n spent. (spent.0, at_longer s.views (w ∷ []) n spent.0 spent.1, spent.2)) ok.knows;
            })
            (λ new. subst (λ (z : ℕ × V). SeatOk k r.log r.served r.tickets views z.0 z.1)
            (λ i. (sym new.0 i, new.1 i))
            record {
              first = λ _. was.first unspent;
              start = λ _. was.start unspent;
              seen = was.seen;
              drawn = was.drawn;
              knows = (r.unmade (length s.views) (le_refl (length s.views)), refl, omega (arith, own.0, below));
            })
            (at_end s.views w u j at');
        once = λ i j u u' at₁ at₂ o₁ o₂. ⊎_elim
            (λ old₁. ⊎_elim
            (λ old₂. r.once i j u u' old₁ old₂ o₁ o₂)
            (λ new. absurd (subst (λ (z : V). IsOpen z.stage) (sym new.1) o₂))
            (at_end s.views w u' j at₂))
            (λ new. absurd (subst (λ (z : V). IsOpen z.stage) (sym new.1) o₁))
            (at_end s.views w u i at₁);
        unmade = λ j above. r.unmade j (omega (arith, above, length-append s.views (w ∷ [])));
      } in
      subst (λ (us : List V). Rule k record { words = s.words; homes = s.homes; views = us ++ w ∷ [] })
      (sym (set_again s.views id v at)) split

  -- a seat is taken in
  unfoldable spends : (k : Origin M) (s : St) (r : Rule k s) (id : ℕ) (w : V) → get_elem? s.views id ≡ some w
      → w.stage ≡ Idle → Rule k record { words = s.words; homes = s.homes; views = set s.views id spent_view }
  spends k s r id w at idle =
      settled stands_for steps_to k s r id w spent_view s.words s.homes r.tickets at
      (λ is. differs Idle tt (sym idle ∙ is)) r.words_are (le_refl r.tickets) r.small
      record {
        first = λ unspent. absurd (unspent refl);
        start = λ unspent. absurd (unspent refl);
        seen = (r.log, refl);
        drawn = omega arith;
        knows = tt;
      }
      (λ has. absurd has)
      (λ none. r.home (none_open s.views id w spent_view at (λ has. subst IsOpen idle has) none))

  -- a seat takes another in
  pub joins : (k : Origin M) (id : ℕ) (v : V) (other : ℕ) (w : V) → v.stage ≡ Idle → w.stage ≡ Idle
      → Joins (Rule k) id v other w (taken_in v w) spent_view
  unfolding settled spends
  joins k id v other w idle idle' s r at apart at' =
      let both : V = taken_in v w in
      let there : get_elem? s.views other ≡ some w = sym (set_else s.views id other both apart) ∙ at' in
      let was = r.each_seat id v at in let was' = r.each_seat other w there in
      let own = subst (Knows r.log r.served r.tickets s.views id v) idle was.knows in
      let own' = subst (Knows r.log r.served r.tickets s.views other w) idle' was'.knows in
      let s' : St = record { words = s.words; homes = s.homes; views = set s.views other spent_view } in
      let r' : Rule k s' = spends k s r other w there idle' in
      let here : get_elem? s'.views id ≡ some v =
      set_else s.views other id spent_view (λ is. apart (sym is)) ∙ at in
      let unspent : v.stage ≢ Spent = λ is. differs Idle tt (sym idle ∙ is) in
      subst (λ (us : List V). Rule k record { words = s.words; homes = s.homes; views = us })
      (set_swap s.views other id spent_view both apart)
      (settled stands_for steps_to k s' r' id v both s.words s.homes r.tickets here unspent r.words_are
      (le_refl r.tickets) r.small
      record {
        first = λ _. was.first unspent;
        start = λ _. was.start unspent;
        seen = was.seen;
        drawn = was.drawn;
        knows = (
          own,
          was'.seen,
          ap (λ n. calls_by n r.log) own'.0 ∙ own'.1,
          (
            spent_view,
            set_else s'.views id w.number both (λ is. apart (sym own'.0 ∙ is))
                ∙ ap (get_elem? s'.views) own'.0
                ∙ set_here s.views other spent_view (at_below s.views other w there),
            refl,
          ),
        );
      }
      (λ has. absurd has)
      (λ none. r'.home (none_open s'.views id v both here (λ has. subst IsOpen idle has) none)))

  -- the rule holds at the start
  pub starts : (k : Origin M) (m : M) → k.start.value ≡ Some m → k.first < 2 ^ 64
      → Rule k (opening (k.first ∷ k.first ∷ []) (Some m ∷ []) (first_view k))
  starts k m is small =
      let v : V = first_view k in
      let reached =
      subst (λ a. Reaches stands_for steps_to a [] m) (sym is) (reaches_start stands_for steps_to m) in record {
        log = [];
        served = k.first;
        tickets = k.first;
        words_are = refl;
        counted = omega arith;
        behind = le_refl k.first;
        small = small;
        legal = reaches_legal stands_for steps_to k.start.value [] m reached;
        home = λ _. (m, refl, reached);
        each_seat = λ j u at. ⊎_elim
            (λ old. absurd (some-ne-none u (sym old)))
            (λ new. subst (λ (z : ℕ × V). SeatOk k [] k.first k.first (v ∷ []) z.0 z.1) (λ i. (sym new.0 i, new.1 i))
            record {
              first = λ _. refl;
              start = λ _. refl;
              seen = starts_self [];
              drawn = omega arith;
              knows = (refl, refl);
            })
            (at_end [] v u j at);
        once = λ i j u u' at₁ at₂ o₁ o₂. ⊎_elim
            (λ old. absurd (some-ne-none u (sym old)))
            (λ new. absurd (subst (λ (z : V). IsOpen z.stage) (sym new.1) o₁))
            (at_end [] v u i at₁);
        unmade = λ j above. refl;
      }

  -- as the table ends with no turn open, the slot has the machine
  pub finishes : (k : Origin M) (id : ℕ) (v : V) (ws : List ℕ) (xs : List (Option M)) (a b : ℕ) (slot : Option M)
      → v.stage ≡ Idle → Final (Seen (Rule k) id v) ws xs → get_elem? ws 0 ≡ some a → get_elem? ws 1 ≡ some b
      → a ≡ b → get_elem? xs 0 ≡ some slot → (m : M) × (slot ≡ Some m) × EndsAs stands_for steps_to v m
  finishes k id v ws xs a b slot idle final served tickets same has = grind (arith, some-injective, final.4 0)

  -- as the table ends with a turn open, a ticket that was drawn has not come yet
  pub left_open : (k : Origin M) (id : ℕ) (v : V) (ws : List ℕ) (xs : List (Option M)) (a b : ℕ) → v.stage ≡ Idle
      → Final (Seen (Rule k) id v) ws xs → get_elem? ws 0 ≡ some a → get_elem? ws 1 ≡ some b → a ≢ b
      → IsLeftOpen stands_for steps_to v
  left_open k id v ws xs a b idle final served tickets apart =
      let r = final.1.0 in
      let was = r.each_seat id v final.1.1 in
      let unspent : v.stage ≢ Spent = λ is. differs Idle tt (sym idle ∙ is) in
      let own = subst (Knows r.log r.served r.tickets final.0.views id v) idle was.knows in
      let words = sym r.words_are ∙ final.2 in
      let is_a : r.served ≡ a = some-injective _ _ (ap (λ l. get_elem? l 0) words ∙ served) in
      let is_b : r.tickets ≡ b = some-injective _ _ (ap (λ l. get_elem? l 1) words ∙ tickets) in
      let more : r.served ≢ r.tickets = λ same. apart (sym is_a ∙ same ∙ is_b) in (
        record v { seen = r.log; drawn = r.tickets; looks = v.looks + 1 },
        ((refl, refl, refl), was.seen, refl),
        (
          subst (λ s. IsLegalLog stands_for steps_to s r.log) (sym (was.start unspent)) r.legal,
          ap (λ n. calls_by n r.log) own.0 ∙ own.1,
        ),
        omega arith,
        was.drawn,
        omega (arith, was.first unspent, r.counted, r.behind, more),
        r.small,
      )
