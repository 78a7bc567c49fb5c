-- What stays of the rule as one seat moves.
use Rattle.ref_turn.proofs.Common.{◌≡◌, ◌≢◌, zero, suc, ◌^◌, ◌<◌, ◌≤◌, ◌⊎◌, ⊎_elim, sym, ap, ◌∙◌, [], ◌∷◌, ◌++◌, length}
use Rattle.ref_turn.proofs.Common.{set, length-append, subst, arith, Some, some-injective, some-ne-none, Option, State}
use Rattle.ref_turn.proofs.Common.{Entry, Stage, Fresh, Idle, Open, Met, Spent, View, StartsWith, Reaches, IsOpen}
use Rattle.ref_turn.proofs.Common.{IsSpent, IsOwnView, Knows, SeatOk}
use Rattle.std.proofs.Common.{ℕ, List, length-set}
use Rattle.ref_turn.specs.declared.history.Origin.{Origin}
use Rattle.ref_turn.specs.Rule.{NoneOpen, IsHome, Turned}
use Rattle.atomic_table.proofs.Lists.{at_set, set_here, set_else}
use Rattle.ref_turn.proofs.Logs.{calls_by-own, calls_by-other, starts_self, starts_more, reaches_legal}
use mathlib.Core.Logic.{dite}
use mathlib.Core.Option.{some}
use native.Mathlib.Decide.{ℕ_discrete}
use lib.ListN.{get_elem?}
use mathlib.Core.Option as maybe

pub at_below : {A : Type 0} (l : List A) (i : ℕ) (a : A) → get_elem? l i ≡ some a → i < length l
at_below [] i a at = absurd (some-ne-none a (sym at))
at_below (x ∷ xs) zero a at = omega arith
at_below (x ∷ xs) (suc i) a at = let below = at_below xs i a at in omega arith

module _ {S R : Type 0} where
  -- it holds no turn, and may look at the history
  abbrev pub Rests : Stage S R → Type 0
  Rests Fresh = ⊥
  Rests Idle = Unit {0}
  Rests Open = ⊥
  Rests (Met k seen mine) = Unit {0}
  Rests Spent = ⊥

  abbrev Differs : Stage S R → Type 0
  Differs Fresh = Unit {0}
  Differs Idle = Unit {0}
  Differs Open = Unit {0}
  Differs (Met k seen mine) = Unit {0}
  Differs Spent = ⊥

  pub differs : (st : Stage S R) → Differs st → st ≢ Spent
  differs st here is = subst Differs is here

  pub open_unspent : (st : Stage S R) → IsOpen st → st ≢ Spent
  open_unspent st has is = subst IsOpen is has

  pub rests_unspent : (st : Stage S R) → Rests st → st ≢ Spent
  rests_unspent st rests is = subst Rests is rests

  pub idle_rests : (st : Stage S R) → st ≡ Idle → Rests st
  idle_rests st idle = subst Rests (sym idle) tt

  pub rests_shut : (st : Stage S R) → Rests st → ¬ (IsOpen st)
  rests_shut Idle rests has = has
  rests_shut (Met k seen mine) rests has = has
  rests_shut Fresh rests has = rests
  rests_shut Open rests has = rests
  rests_shut Spent rests has = rests

module _ {M S R : Type 0} (log : List (Entry S R)) (served tickets : ℕ) (views : List (View M S R)) (seat : ℕ)
    (v : View M S R) where
  pub rests_own : (st : Stage S R) → Rests st → Knows log served tickets views seat v st → IsOwnView log seat v
  rests_own Fresh rests knows = absurd rests
  rests_own Idle rests knows = knows
  rests_own Open rests knows = absurd rests
  rests_own (Met k seen mine) rests knows = knows.0
  rests_own Spent rests knows = absurd rests

  -- a turn is has only where more tickets are drawn than turns have ended
  pub open_within : (st : Stage S R) → IsOpen st → Knows log served tickets views seat v st → served < tickets
  open_within Fresh has knows = absurd has
  open_within Idle has knows = absurd has
  open_within Open has knows = knows.1
  open_within (Met k seen mine) has knows = absurd has
  open_within Spent has knows = absurd has

  -- with more tickets drawn, and other seats moved, a seat knows what it knew
  pub knows_more : (tickets' : ℕ) (views' : List (View M S R)) (st : Stage S R) → tickets ≤ tickets'
      → ((k : ℕ) → IsSpent views k → IsSpent views' k) → Knows log served tickets views seat v st
      → Knows log served tickets' views' seat v st
  knows_more tickets' views' Fresh more spent knows = knows
  knows_more tickets' views' Idle more spent knows = knows
  knows_more tickets' views' Open more spent knows = (knows.0, omega (arith, knows.1, more), knows.2)
  knows_more tickets' views' (Met k seen mine) more spent knows = (knows.0, knows.1, knows.2, spent k knows.3)
  knows_more tickets' views' Spent more spent knows = knows

  -- another seat's call has ended
  pub knows_longer : (served' : ℕ) (views' : List (View M S R)) (st : Stage S R) (e : Entry S R) → e.by ≢ seat
      → ¬ (IsOpen st) → ((k : ℕ) → IsSpent views k → IsSpent views' k × (e.by ≢ k))
      → Knows log served tickets views seat v st → Knows (log ++ e ∷ []) served' tickets views' seat v st
  knows_longer served' views' Fresh e other shut spent knows =
      (calls_by-other seat log e other ∙ knows.0, knows.1, knows.2)
  knows_longer served' views' Idle e other shut spent knows = (knows.0, calls_by-other seat log e other ∙ knows.1)
  knows_longer served' views' Open e other shut spent knows = absurd (shut tt)
  knows_longer served' views' (Met k seen mine) e other shut spent knows =
      let still = spent k knows.3 in (
        (knows.0.0, calls_by-other seat log e other ∙ knows.0.1),
        starts_more log seen (e ∷ []) knows.1,
        calls_by-other k log e still.1 ∙ knows.2,
        still.0,
      )
  knows_longer served' views' Spent e other shut spent knows = tt

module _ {M S R : Type 0} (views : List (View M S R)) (id : ℕ) (v w : View M S R)
    (at : get_elem? views id ≡ some v) where
  abbrev outcome : List (View M S R)
  outcome = set views id w

  pub spent_other : v.stage ≢ Spent → (k : ℕ) → IsSpent views k → k ≢ id
  spent_other unspent k spent is =
      unspent (ap (λ u. u.stage) (some-injective _ _ (sym at ∙ ap (get_elem? views) (sym is) ∙ spent.1)) ∙ spent.2)

  pub spent_stays : v.stage ≢ Spent → (k : ℕ) → IsSpent views k → IsSpent outcome k
  spent_stays unspent k spent =
      (spent.0, set_else views id k w (spent_other unspent k spent) ∙ spent.1, spent.2)

  pub none_open : (IsOpen v.stage → IsOpen w.stage) → NoneOpen outcome → NoneOpen views
  none_open same none j u at' has =
      dite (ℕ_discrete j id)
      (λ is. none id w (set_here views id w (at_below views id v at))
      (same (subst (λ (z : View M S R). IsOpen z.stage)
      (some-injective _ _ (sym at' ∙ ap (get_elem? views) is ∙ at)) has)))
      (λ other. none j u (set_else views id j w other ∙ at') has)

module _ {M X S R : Type 0} (stands_for : M → X → Type 0) (steps_to : X → S → R → X → Type 0) where
  abbrev V : Type 0
  V = View M S R

  abbrev St : Type 0
  St = State (Option M) V

  -- no turn is open where as many have ended as tickets were drawn
  pub none_within : (k : Origin M) (s : St) (r : Turned stands_for steps_to k s) → r.served ≡ r.tickets
      → NoneOpen s.views
  none_within k s r even j u at has = grind arith

  -- a seat moves and adds nothing to the history
  unfoldable pub settled : (k : Origin M) (s : St) (r : Turned stands_for steps_to k s) (id : ℕ) (v w : V) (ws : List ℕ)
      (hs : List (maybe.Option (Option M))) (tickets : ℕ) → get_elem? s.views id ≡ some v → v.stage ≢ Spent
      → ws ≡ r.served ∷ tickets ∷ [] → r.tickets ≤ tickets → tickets < 2 ^ 64
      → SeatOk k r.log r.served tickets (set s.views id w) id w
      → (IsOpen w.stage → IsOpen v.stage ⊎ (r.served ≡ r.tickets))
      → (NoneOpen (set s.views id w) → IsHome stands_for steps_to k r.log hs)
      → Turned stands_for steps_to k record { words = ws; homes = hs; views = set s.views id w }
  settled k s r id v w ws hs tickets at unspent words more small ok opens home =
      let views : List V = set s.views id w in record {
        log = r.log;
        served = r.served;
        tickets = tickets;
        words_are = words;
        counted = r.counted;
        behind = omega (arith, r.behind, more);
        small = small;
        legal = r.legal;
        home = home;
        each_seat = λ j u at'. ⊎_elim
            (λ t. subst (λ (z : ℕ × V). SeatOk k r.log r.served tickets views z.0 z.1) (λ i. (sym t.0 i, t.1 i)) ok)
            (λ t. let was = r.each_seat j u t.1 in record {
              first = was.first;
              start = was.start;
              seen = was.seen;
              drawn = omega (arith, was.drawn, more);
              knows = knows_more r.log r.served r.tickets s.views j u tickets views u.stage more
                  (spent_stays s.views id v w at unspent) was.knows;
            })
            (at_set s.views id j w u at');
        once = λ i j u u' at₁ at₂ o₁ o₂. ⊎_elim
            (λ t₁. ⊎_elim
            (λ t₂. t₁.0 ∙ sym t₂.0)
            (λ t₂. ⊎_elim
            (λ was. t₁.0 ∙ r.once id j v u' at t₂.1 was o₂)
            (λ even. absurd (none_within k s r even j u' t₂.1 o₂))
            (opens (subst (λ (z : V). IsOpen z.stage) (sym t₁.1) o₁)))
            (at_set s.views id j w u' at₂))
            (λ t₁. ⊎_elim
            (λ t₂. ⊎_elim
            (λ was. r.once i id u v t₁.1 at o₁ was ∙ sym t₂.0)
            (λ even. absurd (none_within k s r even i u t₁.1 o₁))
            (opens (subst (λ (z : V). IsOpen z.stage) (sym t₂.1) o₂)))
            (λ t₂. r.once i j u u' t₁.1 t₂.1 o₁ o₂)
            (at_set s.views id j w u' at₂))
            (at_set s.views id i w u at₁);
        unmade = λ j above. r.unmade j (subst (λ (n : ℕ). n ≤ j) (length-set s.views id w) above);
      }

  -- the view of a seat whose call e has ended
  abbrev pub after : V → Entry S R → V
  after v e = record v { stage = Idle; seen = v.seen ++ e ∷ []; mine = v.mine ++ e ∷ [] }

  -- the seat that holds the turn ends it
  pub ended : (k : Origin M) (s : St) (r : Turned stands_for steps_to k s) (id : ℕ) (v : V) (e : Entry S R) (m : M)
      (ws : List ℕ) (hs : List (maybe.Option (Option M))) → get_elem? s.views id ≡ some v → v.stage ≡ Open
      → e.by ≡ id → ws ≡ suc r.served ∷ r.tickets ∷ [] → hs ≡ some (Some m) ∷ []
      → Reaches stands_for steps_to v.start (v.seen ++ e ∷ []) m
      → Turned stands_for steps_to k record { words = ws; homes = hs; views = set s.views id (after v e) }
  ended k s r id v e m ws hs at has own words homes reaches =
      let w : V = after v e in let views : List V = set s.views id w in
      let is_open : IsOpen v.stage = subst IsOpen (sym has) tt in
      let unspent = open_unspent v.stage is_open in let was = r.each_seat id v at in
      let knows = subst (Knows r.log r.served r.tickets s.views id v) has was.knows in
      let longer : List (Entry S R) = r.log ++ e ∷ [] in
      let shown : v.seen ++ e ∷ [] ≡ longer = ap (λ l. l ++ e ∷ []) knows.2 in
      let reached : Reaches stands_for steps_to k.start.value longer m =
      subst (λ l. Reaches stands_for steps_to k.start.value l m) shown
      (subst (λ a. Reaches stands_for steps_to a (v.seen ++ e ∷ []) m) (was.start unspent) reaches) in record {
        log = longer;
        served = suc r.served;
        tickets = r.tickets;
        words_are = words;
        counted = omega (arith, r.counted, length-append r.log (e ∷ []));
        behind = let within = knows.1 in omega arith;
        small = r.small;
        legal = reaches_legal stands_for steps_to k.start.value longer m reached;
        home = λ _. (m, homes, reached);
        each_seat = λ j u at'. ⊎_elim
            (λ t. subst (λ (z : ℕ × V). SeatOk k longer (suc r.served) r.tickets views z.0 z.1)
            (λ i. (sym t.0 i, t.1 i))
            record {
              first = λ _. was.first unspent;
              start = λ _. was.start unspent;
              seen = subst (λ l. StartsWith longer l) (sym shown) (starts_self longer);
              drawn = was.drawn;
              knows = (knows.0.0, calls_by-own id r.log e own ∙ ap (λ l. l ++ e ∷ []) knows.0.1);
            })
            (λ t. let old = r.each_seat j u t.1 in record {
              first = old.first;
              start = old.start;
              seen = starts_more r.log u.seen (e ∷ []) old.seen;
              drawn = old.drawn;
              knows = knows_longer r.log r.served r.tickets s.views j u (suc r.served) views u.stage e
                  (λ same. t.0 (sym same ∙ own))
                  (λ also. t.0 (r.once j id u v t.1 at also is_open))
                  (λ n spent. (
                    spent_stays s.views id v w at unspent n spent,
                    λ same. spent_other s.views id v w at unspent n spent (sym same ∙ own),
                  ))
                  old.knows;
            })
            (at_set s.views id j w u at');
        once = λ i j u u' at₁ at₂ o₁ o₂. ⊎_elim
            (λ t. absurd (subst (λ (z : V). IsOpen z.stage) (sym t.1) o₁))
            (λ t₁. ⊎_elim
            (λ t. absurd (subst (λ (z : V). IsOpen z.stage) (sym t.1) o₂))
            (λ t₂. r.once i j u u' t₁.1 t₂.1 o₁ o₂)
            (at_set s.views id j w u' at₂))
            (at_set s.views id i w u at₁);
        unmade = λ j above.
            let below = at_below s.views id v at in
            let far : length s.views ≤ j = subst (λ (n : ℕ). n ≤ j) (length-set s.views id w) above in
            calls_by-other j r.log e (λ same. omega (arith, same, own, below, far)) ∙ r.unmade j far;
      }
