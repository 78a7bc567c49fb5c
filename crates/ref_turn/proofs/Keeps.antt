-- Each step on the table keeps the rule, and what it tells.
use Rattle.ref_turn.proofs.Common.{◌≡◌, ◌≢◌, suc, ◌+◌, ◌^◌, ◌<◌, ◌≤◌, inr, refl, sym, ap, ◌∙◌, [], ◌∷◌, ◌++◌, length}
use Rattle.ref_turn.proofs.Common.{set, subst, arith, Some, same_Some, none, Option, State, rest, Entry, Stage, Fresh}
use Rattle.ref_turn.proofs.Common.{Idle, Open, Met, Spent, View, calls_by, StartsWith, Reaches, IsLegalLog, IsOpen}
use Rattle.ref_turn.proofs.Common.{IsOwnView, IsSpent, Knows}
use Rattle.std.proofs.Common.{ℕ, ◌%◌, eqb, List, get_or, mod-eq_of_lt}
use Rattle.atomic_table.specs.Table.{Me, step, Act, keeps, takes, gives, Valid, carried_after, stepped, put_back}
use Rattle.atomic_table.specs.Table.{Allows}
use Rattle.ref_turn.specs.declared.history.Origin.{Origin}
use Rattle.ref_turn.specs.Rule.{Turned}
use Rattle.ref_turn.specs.Steps.{drew, named, Shows, gave_back, saw, grabbed}
use Rattle.atomic_table.proofs.Lists.{set_here, exchanged}
use Rattle.ref_turn.proofs.Logs.{calls_by-none, starts_self, starts_length, starts_whole}
use Rattle.ref_turn.proofs.Stays.{at_below, Rests, idle_rests, rests_own, rests_shut, rests_unspent, none_within}
use Rattle.ref_turn.proofs.Stays.{none_open, settled, after, ended, differs, spent_other}
use mathlib.Core.Option.{some}
use lib.ListN.{get_elem?}
use prog.Atomic.{either}

module _ {M S R : Type 0} (log : List (Entry S R)) (served tickets : ℕ) (views : List (View M S R)) (seat : ℕ)
    (v : View M S R) where
  -- a seat that was taken in stands at another place
  shows : (st : Stage S R) → ((k : ℕ) → IsSpent views k → k ≢ seat) → Knows log served tickets views seat v st
      → Shows v.number log st
  shows Fresh other knows = tt
  shows Idle other knows = tt
  shows Open other knows = tt
  shows (Met k seen mine) other knows = ((λ is. other k knows.3 (is ∙ knows.0.0)), knows.1, knows.2)
  shows Spent other knows = tt

one_slot : {A : Type 0} (hs : List A) (x : A) → length hs ≡ 1 → set hs 0 x ≡ x ∷ []
one_slot [] x one = absurd (omega arith)
one_slot (h ∷ []) x one = refl
one_slot (h ∷ (i ∷ hs)) x one = absurd (omega arith)

module _ {M X S R : Type 0} (stands_for : M → X → Type 0) (steps_to : X → S → R → X → Type 0) where
  abbrev V : Type 0
  V = View M S R

  abbrev Known : Type 0
  Known = Me (Option M) V

  abbrev St : Type 0
  St = State (Option M) V

  -- the view of a seat that holds no turn
  abbrev resting : V → ℕ → List (Entry S R) → ℕ → ℕ → V
  resting v number seen drawn looks =
      record v { stage = Idle; number = number; seen = seen; drawn = drawn; looks = looks }

  -- a seat that holds no turn sees more of what there is
  quiet : (k : Origin M) (s : St) (r : Turned stands_for steps_to k s) (id : ℕ) (v : V) (number : ℕ)
      (seen : List (Entry S R)) (drawn looks : ℕ) (ws : List ℕ) → get_elem? s.views id ≡ some v → v.stage ≢ Spent
      → ¬ (IsOpen v.stage) → ws ≡ r.served ∷ r.tickets ∷ [] → IsOwnView r.log id (resting v number seen drawn looks)
      → StartsWith r.log seen → drawn ≤ r.tickets
      → Turned stands_for steps_to k
      record { words = ws; homes = s.homes; views = set s.views id (resting v number seen drawn looks) }
  quiet k s r id v number seen drawn looks ws at unspent shut words own begins small =
      let w : V = resting v number seen drawn looks in let was = r.each_seat id v at in
      settled stands_for steps_to k s r id v w ws s.homes r.tickets at unspent words (omega arith) r.small
      record {
        first = λ _. was.first unspent;
        start = λ _. was.start unspent;
        seen = begins;
        drawn = small;
        knows = own;
      }
      (λ has. absurd has)
      (λ none. r.home (none_open s.views id v w at (λ has. absurd (shut has)) none))

  -- a load of the tickets
  pub draws : (k : Origin M) (slots id : ℕ) (me : Known) → me.0.stage ≡ Idle
      → Allows (Turned stands_for steps_to k) slots id me 1 (λ x. x) (drew (step slots 1 0 0 none) me)
  draws k slots id me idle s r _ at _ =
      let x : ℕ = get_or s.words 1 0 in let is : x ≡ r.tickets = ap (λ ws. get_or ws 1 0) r.words_are in
      let v : V = me.0 in let was = r.each_seat id v at in
      let rests : Rests v.stage = idle_rests v.stage idle in
      let unspent = rests_unspent v.stage rests in
      let long = starts_length r.log v.seen was.seen in
      let first = was.first unspent in (
        resting v v.number v.seen x v.looks,
        keeps,
        tt,
        quiet k s r id v v.number v.seen x v.looks _ at unspent (rests_shut v.stage rests)
            (ap (λ ws. set ws 1 (get_or ws 1 0)) r.words_are)
            (rests_own r.log r.served r.tickets s.views id v v.stage rests was.knows) was.seen (omega (arith, is)),
        (omega (arith, is, was.drawn), omega (arith, is, first, long, r.counted, r.behind), refl),
      )

  -- the first load of a new seat
  pub names : (k : Origin M) (slots id : ℕ) (me : Known) → me.0.stage ≡ Fresh
      → Allows (Turned stands_for steps_to k) slots id me 1 (λ x. x) (named (step slots 1 0 0 none) me)
  names k slots id me fresh s r _ at _ =
      let x : ℕ = get_or s.words 1 0 in let is : x ≡ r.tickets = ap (λ ws. get_or ws 1 0) r.words_are in
      let v : V = me.0 in let was = r.each_seat id v at in
      let knows = subst (Knows r.log r.served r.tickets s.views id v) fresh was.knows in (
        resting v id v.seen x v.looks,
        keeps,
        tt,
        quiet k s r id v id v.seen x v.looks _ at (λ spent. differs Fresh tt (sym fresh ∙ spent))
            (λ has. subst IsOpen fresh has) (ap (λ ws. set ws 1 (get_or ws 1 0)) r.words_are)
            (refl, knows.0 ∙ sym knows.1) was.seen (omega (arith, is)),
        (knows.2, calls_by-none id r.log v.seen was.seen knows.0, refl),
      )

  -- a load of the count of ended turns
  pub looks : (k : Origin M) (slots id : ℕ) (me : Known) → Rests me.0.stage
      → Allows (Turned stands_for steps_to k) slots id me 0 (λ x. x)
      (saw stands_for steps_to (step slots 0 0 0 none) me)
  looks k slots id me rests s r _ at _ =
      let x : ℕ = get_or s.words 0 0 in let is : x ≡ r.served = ap (λ ws. get_or ws 0 0) r.words_are in
      let v : V = me.0 in let was = r.each_seat id v at in
      let unspent = rests_unspent v.stage rests in
      let own = rests_own r.log r.served r.tickets s.views id v v.stage rests was.knows in (
        resting v v.number r.log v.drawn (v.looks + 1),
        keeps,
        tt,
        quiet k s r id v v.number r.log v.drawn (v.looks + 1) _ at unspent (rests_shut v.stage rests)
            (ap (λ ws. set ws 0 (get_or ws 0 0)) r.words_are) own (starts_self r.log) was.drawn,
        (
          is ∙ r.counted ∙ ap (λ n. n + length r.log) (sym (was.first unspent)),
          was.seen,
          subst (λ a. IsLegalLog stands_for steps_to a r.log) (sym (was.start unspent)) r.legal,
          ap (λ n. calls_by n r.log) own.0 ∙ own.1,
          shows r.log r.served r.tickets s.views id v v.stage (spent_other s.views id v v at unspent) was.knows,
          refl,
        ),
      )

  abbrev Goes : Origin M → St → ℕ → ℕ → Known → (ℕ → Known → Type 0) → ℕ → Type 0
  Goes k s i id me then x =
      (w : V)
      × (a : Act (Option M))
      × Valid s.homes me.1 a
      × Turned stands_for steps_to k (stepped s i x id me.1 w a)
      × then (get_or s.words i 0) (w, carried_after me.1 a)

  -- the turn is taken
  took : (k : Origin M) (slots id : ℕ) (me : Known) (old new : ℕ) → me.0.stage ≡ Idle
      → old ≡ me.0.first + length me.0.seen → new ≡ old + 1 → new < 2 ^ 64
      → (s : St) (r : Turned stands_for steps_to k s) → get_elem? s.views id ≡ some me.0 → get_or s.words 1 0 ≡ old
      → Goes k s 1 id me (grabbed stands_for steps_to (step slots 1 old new none) me) new
  took k slots id me old new idle seen next small s r at hit =
      let x : ℕ = get_or s.words 1 0 in let is : x ≡ r.tickets = ap (λ ws. get_or ws 1 0) r.words_are in
      let v : V = me.0 in let was = r.each_seat id v at in
      let rests : Rests v.stage = idle_rests v.stage idle in
      let unspent = rests_unspent v.stage rests in
      let first : v.first ≡ k.first = was.first unspent in
      let long = starts_length r.log v.seen was.seen in
      let even : r.served ≡ r.tickets = omega (arith, is, hit, seen, first, long, r.counted, r.behind) in
      let whole : v.seen ≡ r.log =
      starts_whole r.log v.seen was.seen (omega (arith, is, hit, seen, first, r.counted, even)) in
      let home = r.home (none_within stands_for steps_to k s r even) in let m : M = home.0 in
      let reached : Reaches stands_for steps_to v.start v.seen m =
      subst (λ a. Reaches stands_for steps_to a v.seen m) (sym (was.start unspent))
      (subst (λ l. Reaches stands_for steps_to k.start.value l m) (sym whole) home.2) in
      let w : V = record v { stage = Open; drawn = x + 1 } in (
        w,
        takes 0 (Some m),
        ap (λ hs. get_elem? hs 0) home.1,
        settled stands_for steps_to k s r id v w _ _ new at unspent (ap (λ ws. set ws 1 new) r.words_are)
            (omega (arith, is, hit, next)) small
            record {
              first = λ _. was.first unspent;
              start = λ _. was.start unspent;
              seen = was.seen;
              drawn = omega (arith, hit, next);
              knows = (
                rests_own r.log r.served r.tickets s.views id v v.stage rests was.knows,
                omega (arith, is, hit, next, even),
                whole,
              );
            }
            (λ _. inr even)
            (λ none. absurd (none id w (set_here s.views id w (at_below s.views id v at)) tt)),
        ((λ _. (m, reached, refl)), λ miss. absurd (miss hit)),
      )

  -- a compare-exchange on the tickets
  pub grabs : (k : Origin M) (slots id : ℕ) (me : Known) (old new : ℕ) → me.0.stage ≡ Idle
      → old ≡ me.0.first + length me.0.seen → new ≡ old + 1 → new < 2 ^ 64
      → Allows (Turned stands_for steps_to k) slots id me 1 (λ y. either (eqb y old) new y)
      (grabbed stands_for steps_to (step slots 1 old new none) me)
  grabs k slots id me old new idle seen next small s r _ at _ =
      let x : ℕ = get_or s.words 1 0 in let is : x ≡ r.tickets = ap (λ ws. get_or ws 1 0) r.words_are in
      let v : V = me.0 in let was = r.each_seat id v at in
      let rests : Rests v.stage = idle_rests v.stage idle in
      let unspent = rests_unspent v.stage rests in
      let first : v.first ≡ k.first = was.first unspent in
      let long = starts_length r.log v.seen was.seen in
      exchanged x old new (Goes k s 1 id me (grabbed stands_for steps_to (step slots 1 old new none) me))
      (took k slots id me old new idle seen next small s r at)
      (λ miss. (
        resting v v.number v.seen x v.looks,
        keeps,
        tt,
        quiet k s r id v v.number v.seen x v.looks _ at unspent (rests_shut v.stage rests)
            (ap (λ ws. set ws 1 (get_or ws 1 0)) r.words_are)
            (rests_own r.log r.served r.tickets s.views id v v.stage rests was.knows) was.seen (omega (arith, is)),
        (
          (λ hit. absurd (miss hit)),
          λ _. ((let other : x ≢ old = miss in omega (arith, is, seen, first, long, r.counted, r.behind)), refl),
        ),
      ))

  -- the add that ends a turn
  pub adds : (k : Origin M) (slots id : ℕ) (me : Known) (said : Option (Entry S R)) (e : Entry S R) (m : M)
      → slots ≡ 1 → me.0.stage ≡ Open → me.1 ≡ (0, Some m) ∷ [] → said ≡ Some e → e.by ≡ me.0.number
      → Reaches stands_for steps_to me.0.start (me.0.seen ++ e ∷ []) m
      → Allows (Turned stands_for steps_to k) slots id me 0 (λ n. (n + 1) % 2 ^ 64)
      (gave_back said (step slots 0 1 0 none) me)
  adds k slots id me said e m one has carries says own reaches s r wide at _ =
      let x : ℕ = get_or s.words 0 0 in let is : x ≡ r.served = ap (λ ws. get_or ws 0 0) r.words_are in
      let v : V = me.0 in let was = r.each_seat id v at in
      let knows = subst (Knows r.log r.served r.tickets s.views id v) has was.knows in
      let within = knows.1 in
      let next : (x + 1) % 2 ^ 64 ≡ suc r.served =
      mod-eq_of_lt (omega (arith, is, within, r.small)) ∙ omega (arith, is) in (
        after stands_for steps_to v e,
        gives,
        tt,
        ended stands_for steps_to k s r id v e m _ _ at has (own ∙ knows.0.0)
            (λ i. set (r.words_are i) 0 (next i))
            (ap (put_back s.homes) carries ∙ one_slot s.homes (some (Some m)) (wide ∙ one)) reaches,
        λ d is_d. ap (λ f. (after stands_for steps_to v f, rest me.1)) (same_Some e d (sym says ∙ is_d)),
      )
