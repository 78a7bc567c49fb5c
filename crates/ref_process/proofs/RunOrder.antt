-- What a finder hands on is what it cleared, in order.
use Rattle.std.proofs.Common.{arith, ◌≡◌, ◌<◌, ◌∷◌, ◌++◌, [], refl, subst, sym, ap, append_assoc, ℕ, Bool}
use Rattle.std.proofs.Common.{List, Option, Some, None, length, is_some, if◌then◌else◌, ◌&&◌, inl, inr}
use Rattle.std.proofs.lemmas.Bool.{cases_eq, eq-eqb, eqb-true, ne_eqb}
use Rattle.std.proofs.lemmas.List.{append-nil, map-append, get_or-set_same, get_or-set_other}
use Rattle.ref_process.specs.DeskRows.{Crew, DeskRow, Adds, Begins, Finds, EndsMarking, TakesMade, Looks, EndsClearing}
use Rattle.ref_process.specs.DeskRows.{Gets, Clears, Enqueues, Hands, Spends, Buries, Relocates, IsAnswered, after_row}
use Rattle.ref_process.specs.DeskRows.{IsDeskRow}
use Rattle.ref_process.specs.DeskRows.{lists_at, IsDeskRun, queue_under, looked_key, with_finder}
use Rattle.ref_process.specs.Desks.{Desk, FinderLists, new_lists, lists_finding}
use Rattle.ref_process.specs.Looks.{is_dying, look_through, look_at, look_first, lists_look, lists_look_at}
use Rattle.ref_process.specs.Notices.{handed_for, handed_at, handed_first, lists_hand, notice_queue}
use Rattle.ref_process.specs.Places.{reference_under}
use Rattle.ref_process.specs.RowTallies.{handed_keys, passed_by, passed_on, if_queued, queued_by, queued_clears}
use Rattle.ref_process.specs.RowTallies.{pending_keys}
use Rattle.ref_process.specs.declared.finder.Pending.{Pending}
use Rattle.ref_process.specs.declared.found.Found.{Found}
use Rattle.ref_process.specs.declared.found.Found.TheVariants.{Keep, Listed, Nothing}
use Rattle.ref_process.specs.declared.key.Key.{Key}
use Rattle.ref_process.specs.declared.looked.Looked.{Looked}
use Rattle.ref_process.specs.declared.place.Place.{Place}
use Rattle.ref_process.specs.declared.place.Reference.{Reference}

-- ---- the finder that is changed, and the others

pub changed_lists : (c : Crew) (d : Desk) (i : ℕ) (f : FinderLists) → i < length c.finders
    → lists_at (with_finder c d i f) i ≡ f
changed_lists c d i f there = get_or-set_same c.finders i f (new_lists 0) there

pub other_lists : (c : Crew) (d : Desk) (i : ℕ) (f : FinderLists) (j : ℕ) → (j ≡ i → ⊥)
    → lists_at (with_finder c d i f) j ≡ lists_at c j
other_lists c d i f j other = get_or-set_other c.finders i j f (new_lists 0) other

-- ---- by each call

pub look_pends : (marked : ℕ → Bool) (f : FinderLists) (cycle : ℕ) (k : Key) (h q : Option ℕ)
    → pending_keys
    (if is_dying marked h && is_some q
    then record f { pending = f.pending ++ record { key = k; cycle = cycle } ∷ [] }
    else f).pending
    ≡ pending_keys f.pending ++ if_queued (look_through marked k h) q
look_pends marked f cycle k None q = grind (arith, append-nil)
look_pends marked f cycle k (Some h) None = grind (arith, cases_eq, append-nil)
look_pends marked f cycle k (Some h) (Some q) =
    grind (
      arith,
      cases_eq,
      append-nil,
      map-append (λ (x : Pending). x.key) f.pending (record { key = k; cycle = cycle } ∷ []),
    )

pub through_key : (marked : ℕ → Bool) (k : Key) (h : Option ℕ) → looked_key (look_through marked k h) ≡ k
through_key marked k None = refl
through_key marked k (Some h) = grind (arith, cases_eq)

pub at_key : (marked : ℕ → Bool) (k : Key) (o : Option Reference) → looked_key (look_at marked k o) ≡ k
at_key marked k None = refl
at_key marked k (Some r) = through_key marked k r.referent

pub look_at_pends : (marked : ℕ → Bool) (f : FinderLists) (cycle : ℕ) (k : Key) (o : Option Reference)
    → pending_keys (lists_look_at marked f cycle k o).pending
    ≡ pending_keys f.pending ++ if_queued (look_at marked k o) (queue_under o)
look_at_pends marked f cycle k None = grind (arith, append-nil)
look_at_pends marked f cycle k (Some r) = look_pends marked f cycle k r.referent r.queue

pub looks_pend : (marked : ℕ → Bool) (d : Desk) (f : FinderLists) (ks : List Key) (l : Looked) (q : Option ℕ)
    → look_first marked d.places ks ≡ Some l → q ≡ queue_under (reference_under d.places (looked_key l))
    → pending_keys (lists_look marked d f ks).pending ≡ pending_keys f.pending ++ if_queued l q
looks_pend marked d f [] l q is has_queue = absurd (grind arith)
looks_pend marked d f (k ∷ ks) l q is has_queue =
    let looked : look_at marked k (reference_under d.places k) ≡ l = grind arith in
    let key : looked_key l ≡ k =
    subst (λ x. looked_key x ≡ k) looked (at_key marked k (reference_under d.places k)) in
    let queue : q ≡ queue_under (reference_under d.places k) =
    subst (λ j. q ≡ queue_under (reference_under d.places j)) key has_queue in
    grind (arith, looked, queue, look_at_pends marked (record f { found = ks }) d.cycle k (reference_under d.places k))

pub finding_pends : (f : FinderLists) (k : Key) (x : Found) → (lists_finding f k x).pending ≡ f.pending
finding_pends f k (Keep h) = refl
finding_pends f k Listed = refl
finding_pends f k Nothing = refl

pub handed_key : (x : Pending) (w : ℕ) (q : Option ℕ) → handed_keys (handed_for x w q) ≡ x.key ∷ []
handed_key x w None = refl
handed_key x w (Some q) = refl

pub handed_at_key : (x : Pending) (w : ℕ) (o : Option Reference) → handed_keys (handed_at x w o) ≡ x.key ∷ []
handed_at_key x w None = refl
handed_at_key x w (Some r) = handed_key x w (notice_queue r)

pub hand_passes : (ps : List Place) (f : FinderLists) (w : ℕ) (xs : List Pending) → f.pending ≡ xs
    → handed_keys (handed_first ps w xs) ++ pending_keys (lists_hand f xs).pending ≡ pending_keys xs
hand_passes ps f w [] is = ap pending_keys is
hand_passes ps f w (x ∷ xs) is = grind (arith, handed_at_key x w (reference_under ps x.key))

-- ---- along a run

module _ (marked : ℕ → Bool) (c : Crew) (i : ℕ) where
  abbrev pub Orders : DeskRow → Type 0
  Orders row =
      passed_by i row ++ pending_keys (lists_at (after_row marked c row) i).pending
      ≡ pending_keys (lists_at c i).pending ++ queued_by i row

  pub in_order : (row : DeskRow) → IsAnswered marked c row → Orders row
  in_order (Adds j owner strength referent queue x) is = grind (arith, append-nil)
  in_order (Begins now u n) is = grind (arith, append-nil)
  in_order (Finds j k x) is =
      elim (cases_eq i j) [
        | inl here ↦
            grind (
              arith,
              append-nil,
              here,
              changed_lists c (after_row marked c (Finds j k x)).desk j (lists_finding (lists_at c j) k x) is.0,
              finding_pends (lists_at c j) k x,
            )
        | inr other ↦
            grind (
              arith,
              append-nil,
              other_lists c (after_row marked c (Finds j k x)).desk j (lists_finding (lists_at c j) k x) i other,
            )
      ]
  in_order EndsMarking is = grind (arith, append-nil)
  in_order (TakesMade j) is =
      elim (cases_eq i j) [
        | inl here ↦ grind (arith, append-nil, here, changed_lists c (after_row marked c (TakesMade j)).desk j)
        | inr other ↦ grind (arith, append-nil, other_lists c (after_row marked c (TakesMade j)).desk j)
      ]
  in_order (Looks j l q) is =
      elim (cases_eq i j) [
        | inl here ↦
            grind (
              arith,
              eq-eqb,
              here,
              changed_lists c (after_row marked c (Looks j l q)).desk j
                  (lists_look marked c.desk (lists_at c j) (lists_at c j).found) is.0,
              looks_pend marked c.desk (lists_at c j) (lists_at c j).found l q is.2 is.3,
            )
        | inr other ↦
            grind (
              arith,
              append-nil,
              cases_eq,
              ne_eqb,
              eqb-true,
              other_lists c (after_row marked c (Looks j l q)).desk j
                  (lists_look marked c.desk (lists_at c j) (lists_at c j).found) i other,
            )
      ]
  in_order EndsClearing is = grind (arith, append-nil)
  in_order (Gets j got) is = grind (arith, append-nil)
  in_order (Clears j) is = grind (arith, append-nil)
  in_order (Enqueues j x) is = grind (arith, append-nil)
  in_order (Hands j x) is =
      elim (cases_eq i j) [
        | inl here ↦
            grind (
              arith,
              append-nil,
              eq-eqb,
              here,
              changed_lists c (after_row marked c (Hands j x)).desk j (lists_hand (lists_at c j) (lists_at c j).pending)
                  is.0,
              hand_passes c.desk.places (lists_at c j) (lists_at c j).worker (lists_at c j).pending refl,
            )
        | inr other ↦
            grind (
              arith,
              append-nil,
              cases_eq,
              ne_eqb,
              eqb-true,
              other_lists c (after_row marked c (Hands j x)).desk j (lists_hand (lists_at c j) (lists_at c j).pending) i
                  other,
            )
      ]
  in_order (Spends j) is = grind (arith, append-nil)
  in_order (Buries j) is = grind (arith, append-nil)
  in_order (Relocates to) is = grind (arith, append-nil)

pub row_order : (c : Crew) (row : DeskRow) (e : Crew) → IsDeskRow c row e → (i : ℕ)
    → passed_by i row ++ pending_keys (lists_at e i).pending ≡ pending_keys (lists_at c i).pending ++ queued_by i row
row_order c row e leads i =
    subst
    (λ (x : Crew). passed_by i row ++ pending_keys (lists_at x i).pending
    ≡ pending_keys (lists_at c i).pending ++ queued_by i row)
    (sym leads.1.1) (in_order leads.0 c i row leads.1.0)

pub run_order : (rows : List DeskRow) (c e : Crew) → IsDeskRun c rows e → (i : ℕ)
    → passed_on i rows ++ pending_keys (lists_at e i).pending
    ≡ pending_keys (lists_at c i).pending ++ queued_clears i rows
run_order [] c e run i = grind (arith, append-nil, run)
run_order (row ∷ rest) c e run i =
    grind (arith, append_assoc, row_order c row run.0 run.1 i, run_order rest run.0 e run.2 i)
