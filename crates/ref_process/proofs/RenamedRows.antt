-- A run is the same by other handles.
use Rattle.std.proofs.Common.{arith, ◌≡◌, ◌+◌, ◌-◌, ◌∷◌, ◌++◌, [], refl, sym, ap, ap₂, ◌∙◌, ℕ, Bool, true, false}
use Rattle.std.proofs.Common.{List, Option, Some, None, is_some, not, ◌&&◌, ◌||◌, if◌then◌else◌}
use Rattle.std.proofs.Common.{map, inl, inr, ◌==◌}
use Rattle.std.proofs.lemmas.Bool.{cases_eq, eq-eqb, ne_eqb}
use Rattle.std.proofs.lemmas.List.{length-map, map-set, map-append}
use Rattle.ref_base.specs.KeptPaths.{is_kept}
use Rattle.ref_base.specs.Paths.{is_soft, if_any}
use Rattle.ref_base.specs.declared.policy.Policy.{Policy}
use Rattle.ref_process.proofs.MovedPlaces.{moved_at, moved_some, moved_vacant, moved_vacancy, moved_under}
use Rattle.ref_process.specs.DeskRows.{Crew, DeskRow, Adds, Begins, Finds, EndsMarking, TakesMade, Looks, EndsClearing}
use Rattle.ref_process.specs.DeskRows.{Gets, Clears, Enqueues, Hands, Spends, Buries, Relocates, IsAnswered, after_row}
use Rattle.ref_process.specs.DeskRows.{lists_at, at_desk, with_finder, queue_under, looked_key, IsRowBy}
use Rattle.ref_process.specs.DeskRows.{IsRunBy, IsDeskRun}
use Rattle.ref_process.specs.Desks.{Desk, FinderLists, add_refusal, found_refusal, key_refusal, death_refusal}
use Rattle.ref_process.specs.Desks.{is_owed, owner_of, owed_owner, owed_owners, seen_reference, finding, finding_of}
use Rattle.ref_process.specs.Desks.{after_finding, lists_finding}
use Rattle.ref_process.specs.Desks.{made_reference, making, is_marking, with_made_key, unless_met}
use Rattle.ref_process.specs.Looks.{reads, refers_to, same_referent}
use Rattle.ref_process.specs.Looks.{reads_in, got_of, after_get, cut_in, after_clear, is_dying, look_through, look_at}
use Rattle.ref_process.specs.Looks.{look_first, after_look_at, lists_look_at, after_look, lists_look}
use Rattle.ref_process.specs.Notices.{notice_queue, told_for, enqueued_of, after_enqueue, handed_at, handed_first}
use Rattle.ref_process.specs.Notices.{after_hand_at, after_hand, lists_hand, after_spend}
use Rattle.ref_process.specs.Places.{reference_under, put_at, with_new, buried, any_vacancy, is_new_key}
use Rattle.ref_process.specs.Relocations.{relocated_handle, relocated_reference, relocated_held, relocated_place}
use Rattle.ref_process.specs.Relocations.{relocated_places, after_relocation}
use Rattle.ref_process.specs.Renamings.{renamed_crew, renamed_found, renamed_row, renamed_rows}
use Rattle.ref_process.specs.declared.fault.ProcessFault.TheVariants.{NoSuchReference}
use Rattle.ref_process.specs.declared.finder.Pending.{Pending}
use Rattle.ref_process.specs.declared.found.Found.{Found}
use Rattle.ref_process.specs.declared.found.Found.TheVariants.{Keep, Listed, Nothing}
use Rattle.ref_process.specs.declared.key.Key.{Key}
use Rattle.ref_process.specs.declared.looked.Looked.TheVariants.{Cleared, Kept}
use Rattle.ref_process.specs.declared.phase.Phase.{Phase}
use Rattle.ref_process.specs.declared.phase.Phase.TheVariants.{Idle, Marking, Clearing}
use Rattle.ref_process.specs.declared.place.Place.{Place}
use Rattle.ref_process.specs.declared.place.Reference.{Reference}

-- ---- places and desks

module _ (to : ℕ → ℕ) where
  pub put_moved : (ps : List Place) (k : Key) (r : Reference)
      → relocated_places to (put_at ps k r) ≡ put_at (relocated_places to ps) k (relocated_reference to r)
  put_moved ps k r = map-set (relocated_place to) ps k.place (record { round = k.round; held = Some r })

  pub buried_moved : (ps : List Place) (k : Key)
      → relocated_places to (buried ps k) ≡ buried (relocated_places to ps) k
  buried_moved ps k = map-set (relocated_place to) ps k.place (record { round = k.round + 1; held = None })

  pub new_moved : (ps : List Place) (k : Key) (r : Reference)
      → relocated_places to (with_new ps k r) ≡ with_new (relocated_places to ps) k (relocated_reference to r)
  new_moved ps k r =
      grind (
        arith,
        cases_eq,
        length-map ps (relocated_place to),
        put_moved ps k r,
        map-append (relocated_place to) ps (record { round = k.round; held = Some r } ∷ []),
      )

  pub any_moved : (ps : List Place) → any_vacancy (relocated_places to ps) ≡ any_vacancy ps
  any_moved [] = refl
  any_moved (p ∷ ps) = grind (arith, any_moved ps, moved_vacant to p)

  pub new_key_moved : (ps : List Place) (k : Key) → is_new_key (relocated_places to ps) k ≡ is_new_key ps k
  new_key_moved ps k =
      grind (
        arith,
        any_moved ps,
        moved_vacancy to ps k.place,
        moved_at to ps k.place,
        length-map ps (relocated_place to),
      )

  -- the desk with this reference under the key
  pub placed : (d : Desk) (k : Key) (r s : Reference) → s ≡ relocated_reference to r
      → record d { places = put_at (relocated_places to d.places) k s }
      ≡ after_relocation to (record d { places = put_at d.places k r })
  placed d k r s is =
      ap (λ (x : Reference). record d { places = put_at (relocated_places to d.places) k x }) is
      ∙ ap (λ (ps : List Place). record d { places = ps }) (sym (put_moved d.places k r))

  pub placed_by : (b : Bool) (d : Desk) (k : Key) (r s : Reference) → s ≡ relocated_reference to r
      → (if b
      then record d { places = put_at (relocated_places to d.places) k s }
      else after_relocation to d)
      ≡ after_relocation to (if b then record d { places = put_at d.places k r } else d)
  placed_by true d k r s is = placed d k r s is
  placed_by false d k r s is = refl

  -- ---- what needs no marks

  pub some_handle : (h : Option ℕ) → is_some (relocated_handle to h) ≡ is_some h
  some_handle None = refl
  some_handle (Some h) = refl

  pub there_moved : (ps : List Place) (k : Key)
      → is_some (reference_under (relocated_places to ps) k) ≡ is_some (reference_under ps k)
  there_moved ps k = ap is_some (moved_under to ps k) ∙ moved_some to (reference_under ps k)

  pub owed_moved : (o : Option Reference) → is_owed (relocated_held to o) ≡ is_owed o
  owed_moved None = refl
  owed_moved (Some r) = refl

  pub queue_moved : (o : Option Reference) → queue_under (relocated_held to o) ≡ queue_under o
  queue_moved None = refl
  queue_moved (Some r) = refl

  pub enqueued_moved : (k : Key) (o : Option Reference) → enqueued_of k (relocated_held to o) ≡ enqueued_of k o
  enqueued_moved k None = refl
  enqueued_moved k (Some r) = refl

  pub key_refused : (d : Desk) (k : Key) → key_refusal (after_relocation to d) k ≡ key_refusal d k
  key_refused d k = ap (λ b. unless_met b NoSuchReference None) (there_moved d.places k)

  pub found_refused : (d : Desk) (k : Key) → found_refusal (after_relocation to d) k ≡ found_refusal d k
  found_refused d k = grind (arith, there_moved d.places k)

  pub death_refused : (d : Desk) (k : Key) → death_refusal (after_relocation to d) k ≡ death_refusal d k
  death_refused d k =
      grind (arith, there_moved d.places k, moved_under to d.places k, owed_moved (reference_under d.places k))

  pub add_refused : (d : Desk) → add_refusal (after_relocation to d) ≡ add_refusal d
  add_refused d = grind (arith, any_moved d.places, length-map d.places (relocated_place to))

  pub kept_found : (b : Bool) (h : ℕ)
      → (if b then Keep (to h) else Listed) ≡ renamed_found to (if b then Keep h else Listed)
  kept_found true h = refl
  kept_found false h = refl

  pub finding_moved : (p : Policy) (r : Reference) (h : Option ℕ)
      → finding p (relocated_reference to r) (relocated_handle to h) ≡ renamed_found to (finding p r h)
  finding_moved p r None = refl
  finding_moved p r (Some h) = kept_found (is_kept p (seen_reference r)) h

  pub found_moved : (p : Policy) (o : Option Reference)
      → finding_of p (relocated_held to o) ≡ renamed_found to (finding_of p o)
  found_moved p None = refl
  found_moved p (Some r) = finding_moved p r r.referent

  pub if_marking : (b : Bool) (x y : Found) → x ≡ renamed_found to y
      → (if b then x else Nothing) ≡ renamed_found to (if b then y else Nothing)
  if_marking true x y is = is
  if_marking false x y is = refl

  pub making_moved : (d : Desk) (r : Reference)
      → making (after_relocation to d) (relocated_reference to r) ≡ renamed_found to (making d r)
  making_moved d r =
      if_marking (is_marking d.phase) (finding_of d.policy (Some (relocated_reference to r)))
      (finding_of d.policy (Some r)) (found_moved d.policy (Some r))

  pub made_key_moved : (d : Desk) (k : Key) (x : Found)
      → with_made_key (after_relocation to d) k (renamed_found to x) ≡ after_relocation to (with_made_key d k x)
  made_key_moved d k (Keep h) = refl
  made_key_moved d k Listed = refl
  made_key_moved d k Nothing = refl

  pub after_found_moved : (d : Desk) (x : Found)
      → after_finding (after_relocation to d) (renamed_found to x) ≡ after_relocation to (after_finding d x)
  after_found_moved d (Keep h) = refl
  after_found_moved d Listed = refl
  after_found_moved d Nothing = refl

  pub lists_found_moved : (f : FinderLists) (k : Key) (x : Found)
      → lists_finding f k (renamed_found to x) ≡ lists_finding f k x
  lists_found_moved f k (Keep h) = refl
  lists_found_moved f k Listed = refl
  lists_found_moved f k Nothing = refl

  pub told_moved : (r : Reference) (q : Option ℕ)
      → told_for (relocated_reference to r) q ≡ relocated_reference to (told_for r q)
  told_moved r None = refl
  told_moved r (Some q) = refl

  pub handed_at_moved : (x : Pending) (w : ℕ) (o : Option Reference)
      → handed_at x w (relocated_held to o) ≡ handed_at x w o
  handed_at_moved x w None = refl
  handed_at_moved x w (Some r) = refl

  pub handed_moved : (ps : List Place) (w : ℕ) (xs : List Pending)
      → handed_first (relocated_places to ps) w xs ≡ handed_first ps w xs
  handed_moved ps w [] = refl
  handed_moved ps w (x ∷ xs) =
      ap (handed_at x w) (moved_under to ps x.key) ∙ handed_at_moved x w (reference_under ps x.key)

  pub hand_at_moved : (d : Desk) (k : Key) (o : Option Reference)
      → after_hand_at (after_relocation to d) k (relocated_held to o) ≡ after_relocation to (after_hand_at d k o)
  hand_at_moved d k None = refl
  hand_at_moved d k (Some r) =
      placed d k (record (told_for r (notice_queue r)) { is_pending = false })
      (record (told_for (relocated_reference to r) (notice_queue r)) { is_pending = false })
      (ap (λ (s : Reference). record s { is_pending = false }) (told_moved r (notice_queue r)))

  pub hand_moved : (d : Desk) (xs : List Pending)
      → after_hand (after_relocation to d) xs ≡ after_relocation to (after_hand d xs)
  hand_moved d [] = refl
  hand_moved d (x ∷ xs) =
      ap (after_hand_at (after_relocation to d) x.key) (moved_under to d.places x.key)
      ∙ hand_at_moved d x.key (reference_under d.places x.key)

  pub spend_moved : (d : Desk) (k : Key) (o : Option Reference)
      → after_spend (after_relocation to d) k (relocated_held to o) ≡ after_relocation to (after_spend d k o)
  spend_moved d k None = refl
  spend_moved d k (Some r) =
      placed d k (record r { is_out = false }) (record (relocated_reference to r) { is_out = false }) refl

  pub owner_moved : (o : Option Reference) → owner_of (relocated_held to o) ≡ relocated_handle to (owner_of o)
  owner_moved None = refl
  owner_moved (Some r) = refl

  pub any_handle : (b : Bool) (h : Option ℕ)
      → (if b then if_any (relocated_handle to h) else []) ≡ map to (if b then if_any h else [])
  any_handle true None = refl
  any_handle true (Some h) = refl
  any_handle false h = refl

  pub owed_owner_moved : (o : Option Reference) → owed_owner (relocated_held to o) ≡ map to (owed_owner o)
  owed_owner_moved None = refl
  owed_owner_moved (Some r) = any_handle (r.is_pending || r.is_out) r.owner

  pub roots_moved : (ps : List Place) → owed_owners (relocated_places to ps) ≡ map to (owed_owners ps)
  roots_moved [] = refl
  roots_moved (p ∷ ps) =
      ap₂ (λ (hs gs : List ℕ). hs ++ gs) (owed_owner_moved p.held) (roots_moved ps)
      ∙ sym (map-append to (owed_owner p.held) (owed_owners ps))

-- ---- what asks the marks

module _ (to from : ℕ → ℕ) (back : (h : ℕ) → from (to h) ≡ h) (marked : ℕ → Bool) where
  -- what the marker answers of the other handles
  abbrev pub marked_from : ℕ → Bool
  marked_from h = marked (from h)

  pub marked_same : (h : ℕ) → marked_from (to h) ≡ marked h
  marked_same h = ap marked (back h)

  pub reads_moved : (phase : Phase) (h : Option ℕ)
      → reads_in marked_from phase (relocated_handle to h) ≡ relocated_handle to (reads_in marked phase h)
  reads_moved Idle h = refl
  reads_moved Marking h = refl
  reads_moved Clearing None = refl
  reads_moved Clearing (Some h) = grind (arith, cases_eq, marked_same h)

  pub some_read : (phase : Phase) (h : Option ℕ)
      → is_some (reads_in marked_from phase (relocated_handle to h)) ≡ is_some (reads_in marked phase h)
  some_read phase h = ap is_some (reads_moved phase h) ∙ some_handle to (reads_in marked phase h)

  pub one_handle : (g h : ℕ) → (to g == to h) ≡ (g == h)
  one_handle g h =
      elim (cases_eq g h) [
        | inl here ↦ eq-eqb (to g) (to h) (ap to here) ∙ sym (eq-eqb g h here)
        | inr other ↦
            ne_eqb (to g) (to h) (λ is. other (sym (back g) ∙ ap from is ∙ back h)) ∙ sym (ne_eqb g h other)
      ]

  pub same_moved : (g h : Option ℕ)
      → same_referent (relocated_handle to g) (relocated_handle to h) ≡ same_referent g h
  same_moved None None = refl
  same_moved None (Some h) = refl
  same_moved (Some g) None = refl
  same_moved (Some g) (Some h) = one_handle g h

  pub held_reads : (d : Desk) (o : Option Reference)
      → reads marked_from (after_relocation to d) (relocated_held to o) ≡ relocated_handle to (reads marked d o)
  held_reads d None = refl
  held_reads d (Some r) = reads_moved d.phase r.referent

  pub refers_moved : (c : Crew) (k : Key) (h : Option ℕ)
      → refers_to marked_from (renamed_crew to c).desk (at_desk (renamed_crew to c) k) (relocated_handle to h)
      ≡ refers_to marked c.desk (at_desk c k) h
  refers_moved c k h =
      ap (λ o. same_referent (reads marked_from (after_relocation to c.desk) o) (relocated_handle to h))
      (moved_under to c.desk.places k)
      ∙ ap (λ o. same_referent o (relocated_handle to h)) (held_reads c.desk (at_desk c k))
      ∙ same_moved (reads marked c.desk (at_desk c k)) h

  pub got_moved : (d : Desk) (o : Option Reference)
      → got_of marked_from (after_relocation to d) (relocated_held to o) ≡ relocated_handle to (got_of marked d o)
  got_moved d None = refl
  got_moved d (Some r) = grind (arith, cases_eq, reads_moved d.phase r.referent)

  pub get_moved : (d : Desk) (k : Key) (o : Option Reference)
      → after_get marked_from (after_relocation to d) k (relocated_held to o)
      ≡ after_relocation to (after_get marked d k o)
  get_moved d k None = refl
  get_moved d k (Some r) =
      ap
      (λ b. if is_soft r.strength && b
      then record d {
        places = put_at (relocated_places to d.places) k
            (record (relocated_reference to r) { stamp = d.policy.clock });
      }
      else after_relocation to d)
      (some_read d.phase r.referent)
      ∙ placed_by to (is_soft r.strength && is_some (reads_in marked d.phase r.referent)) d k
      (record r { stamp = d.policy.clock }) (record (relocated_reference to r) { stamp = d.policy.clock }) refl

  pub cut_by : (b : Bool) (r : Reference)
      → (if b then record (relocated_reference to r) { referent = None } else relocated_reference to r)
      ≡ relocated_reference to (if b then record r { referent = None } else r)
  cut_by true r = refl
  cut_by false r = refl

  pub cut_moved : (phase : Phase) (r : Reference)
      → cut_in marked_from phase (relocated_reference to r) ≡ relocated_reference to (cut_in marked phase r)
  cut_moved phase r =
      ap
      (λ (b : Bool). if b then record (relocated_reference to r) { referent = None } else relocated_reference to r)
      (some_read phase r.referent)
      ∙ cut_by (is_some (reads_in marked phase r.referent)) r

  pub clear_moved : (d : Desk) (k : Key) (o : Option Reference)
      → after_clear marked_from (after_relocation to d) k (relocated_held to o)
      ≡ after_relocation to (after_clear marked d k o)
  clear_moved d k None = refl
  clear_moved d k (Some r) =
      placed to d k (cut_in marked d.phase r) (cut_in marked_from d.phase (relocated_reference to r))
      (cut_moved d.phase r)

  pub enqueue_moved : (d : Desk) (k : Key) (o : Option Reference)
      → after_enqueue marked_from (after_relocation to d) k (relocated_held to o)
      ≡ after_relocation to (after_enqueue marked d k o)
  enqueue_moved d k None = refl
  enqueue_moved d k (Some r) =
      placed to d k (told_for (cut_in marked d.phase r) (notice_queue r))
      (told_for (cut_in marked_from d.phase (relocated_reference to r)) (notice_queue r))
      (ap (λ (s : Reference). told_for s (notice_queue r)) (cut_moved d.phase r)
      ∙ told_moved to (cut_in marked d.phase r) (notice_queue r))

  pub dying_moved : (h : Option ℕ) → is_dying marked_from (relocated_handle to h) ≡ is_dying marked h
  dying_moved None = refl
  dying_moved (Some h) = ap not (marked_same h)

  pub through_moved : (k : Key) (h : Option ℕ)
      → look_through marked_from k (relocated_handle to h) ≡ look_through marked k h
  through_moved k None = refl
  through_moved k (Some h) = ap (λ (b : Bool). if b then Kept k else Cleared k) (marked_same h)

  pub look_at_moved : (k : Key) (o : Option Reference)
      → look_at marked_from k (relocated_held to o) ≡ look_at marked k o
  look_at_moved k None = refl
  look_at_moved k (Some r) = through_moved k r.referent

  pub first_moved : (ps : List Place) (ks : List Key)
      → look_first marked_from (relocated_places to ps) ks ≡ look_first marked ps ks
  first_moved ps [] = refl
  first_moved ps (k ∷ ks) =
      ap (λ o. Some (look_at marked_from k o)) (moved_under to ps k)
      ∙ ap (λ l. Some l) (look_at_moved k (reference_under ps k))

  pub after_look_at_moved : (d : Desk) (k : Key) (o : Option Reference)
      → after_look_at marked_from (after_relocation to d) k (relocated_held to o)
      ≡ after_relocation to (after_look_at marked d k o)
  after_look_at_moved d k None = refl
  after_look_at_moved d k (Some r) =
      ap
      (λ (b : Bool). if b
      then record d {
        places = put_at (relocated_places to d.places) k
            (record (relocated_reference to r) { referent = None; is_pending = is_some r.queue });
      }
      else after_relocation to d)
      (dying_moved r.referent)
      ∙ placed_by to (is_dying marked r.referent) d k (record r { referent = None; is_pending = is_some r.queue })
      (record (relocated_reference to r) { referent = None; is_pending = is_some r.queue }) refl

  pub look_moved : (d : Desk) (ks : List Key)
      → after_look marked_from (after_relocation to d) ks ≡ after_relocation to (after_look marked d ks)
  look_moved d [] = refl
  look_moved d (k ∷ ks) =
      ap (after_look_at marked_from (after_relocation to (record d { listed = d.listed - 1 })) k)
      (moved_under to d.places k)
      ∙ after_look_at_moved (record d { listed = d.listed - 1 }) k (reference_under d.places k)

  pub lists_at_moved : (f : FinderLists) (cycle : ℕ) (k : Key) (o : Option Reference)
      → lists_look_at marked_from f cycle k (relocated_held to o) ≡ lists_look_at marked f cycle k o
  lists_at_moved f cycle k None = refl
  lists_at_moved f cycle k (Some r) =
      ap
      (λ (b : Bool). if b && is_some r.queue
      then record f { pending = f.pending ++ record { key = k; cycle = cycle } ∷ [] }
      else f)
      (dying_moved r.referent)

  pub lists_moved : (d : Desk) (f : FinderLists) (ks : List Key)
      → lists_look marked_from (after_relocation to d) f ks ≡ lists_look marked d f ks
  lists_moved d f [] = refl
  lists_moved d f (k ∷ ks) =
      ap (lists_look_at marked_from (record f { found = ks }) d.cycle k) (moved_under to d.places k)
      ∙ lists_at_moved (record f { found = ks }) d.cycle k (reference_under d.places k)

  -- ---- moves themselves

  pub handle_again : (moves : ℕ → ℕ) (h : Option ℕ)
      → relocated_handle (λ g. to (moves (from g))) (relocated_handle to h)
      ≡ relocated_handle to (relocated_handle moves h)
  handle_again moves None = refl
  handle_again moves (Some h) = ap (λ g. Some (to (moves g))) (back h)

  pub held_again : (moves : ℕ → ℕ) (o : Option Reference)
      → relocated_held (λ g. to (moves (from g))) (relocated_held to o) ≡ relocated_held to (relocated_held moves o)
  held_again moves None = refl
  held_again moves (Some r) =
      ap₂ (λ (g h : Option ℕ). Some (record r { owner = g; referent = h })) (handle_again moves r.owner)
      (handle_again moves r.referent)

  pub places_again : (moves : ℕ → ℕ) (ps : List Place)
      → relocated_places (λ g. to (moves (from g))) (relocated_places to ps)
      ≡ relocated_places to (relocated_places moves ps)
  places_again moves [] = refl
  places_again moves (p ∷ ps) =
      ap₂ (λ (o : Option Reference) (qs : List Place). let q : Place = record { round = p.round; held = o } in q ∷ qs)
      (held_again moves p.held) (places_again moves ps)

  -- ---- by each row

  module _ (c : Crew) where
    pub renamed_answered : (row : DeskRow) → IsAnswered marked c row
        → IsAnswered marked_from (renamed_crew to c) (renamed_row to from row)
    renamed_answered (Adds k owner strength referent queue x) is = (
      add_refused to c.desk ∙ is.0,
      new_key_moved to c.desk.places k ∙ is.1,
      ap (renamed_found to) is.2 ∙ sym (making_moved to c.desk (made_reference c.desk owner strength referent queue)),
    )
    renamed_answered (Begins now u n) is = is
    renamed_answered (Finds i k x) is = (
      is.0,
      found_refused to c.desk k ∙ is.1,
      ap (renamed_found to) is.2
          ∙ sym
          (ap (finding_of c.desk.policy) (moved_under to c.desk.places k)
          ∙ found_moved to c.desk.policy (at_desk c k)),
    )
    renamed_answered EndsMarking is = is
    renamed_answered (TakesMade i) is = is
    renamed_answered (Looks i l q) is = (
      is.0,
      is.1,
      first_moved c.desk.places (lists_at c i).found ∙ is.2,
      is.3
          ∙ sym
          (ap queue_under (moved_under to c.desk.places (looked_key l)) ∙ queue_moved to (at_desk c (looked_key l))),
    )
    renamed_answered EndsClearing is = is
    renamed_answered (Gets k got) is = (
      key_refused to c.desk k ∙ is.0,
      ap (relocated_handle to) is.1
          ∙ sym
          (ap (got_of marked_from (after_relocation to c.desk)) (moved_under to c.desk.places k)
          ∙ got_moved c.desk (at_desk c k)),
    )
    renamed_answered (Clears k) is = key_refused to c.desk k ∙ is
    renamed_answered (Enqueues k x) is = (
      key_refused to c.desk k ∙ is.0,
      is.1 ∙ sym (ap (enqueued_of k) (moved_under to c.desk.places k) ∙ enqueued_moved to k (at_desk c k)),
    )
    renamed_answered (Hands i x) is =
        (is.0, is.1 ∙ sym (handed_moved to c.desk.places (lists_at c i).worker (lists_at c i).pending))
    renamed_answered (Spends k) is = there_moved to c.desk.places k ∙ is
    renamed_answered (Buries k) is = death_refused to c.desk k ∙ is
    renamed_answered (Relocates moves) is = is

    abbrev pub WithDesk : Desk → Crew
    WithDesk d = record c { desk = d }

    pub renamed_after : (row : DeskRow)
        → after_row marked_from (renamed_crew to c) (renamed_row to from row)
        ≡ renamed_crew to (after_row marked c row)
    renamed_after (Adds k owner strength referent queue x) =
        let r : Reference = made_reference c.desk owner strength referent queue in
        ap WithDesk
        (ap (λ (ps : List Place). with_made_key (record c.desk { places = ps }) k (renamed_found to x))
        (sym (new_moved to c.desk.places k r))
        ∙ made_key_moved to (record c.desk { places = with_new c.desk.places k r }) k x)
    renamed_after (Begins now u n) = refl
    renamed_after (Finds i k x) =
        ap₂ (λ (d : Desk) (f : FinderLists). with_finder c d i f) (after_found_moved to c.desk x)
        (lists_found_moved to (lists_at c i) k x)
    renamed_after EndsMarking = refl
    renamed_after (TakesMade i) = refl
    renamed_after (Looks i l q) =
        ap₂ (λ (d : Desk) (f : FinderLists). with_finder c d i f) (look_moved c.desk (lists_at c i).found)
        (lists_moved c.desk (lists_at c i) (lists_at c i).found)
    renamed_after EndsClearing = refl
    renamed_after (Gets k got) =
        ap WithDesk
        (ap (after_get marked_from (after_relocation to c.desk) k) (moved_under to c.desk.places k)
        ∙ get_moved c.desk k (at_desk c k))
    renamed_after (Clears k) =
        ap WithDesk
        (ap (after_clear marked_from (after_relocation to c.desk) k) (moved_under to c.desk.places k)
        ∙ clear_moved c.desk k (at_desk c k))
    renamed_after (Enqueues k x) =
        ap WithDesk
        (ap (after_enqueue marked_from (after_relocation to c.desk) k) (moved_under to c.desk.places k)
        ∙ enqueue_moved c.desk k (at_desk c k))
    renamed_after (Hands i x) =
        ap (λ (d : Desk). with_finder c d i (lists_hand (lists_at c i) (lists_at c i).pending))
        (hand_moved to c.desk (lists_at c i).pending)
    renamed_after (Spends k) =
        ap WithDesk
        (ap (after_spend (after_relocation to c.desk) k) (moved_under to c.desk.places k)
        ∙ spend_moved to c.desk k (at_desk c k))
    renamed_after (Buries k) =
        ap WithDesk (ap (λ (ps : List Place). record c.desk { places = ps }) (sym (buried_moved to c.desk.places k)))
    renamed_after (Relocates moves) =
        ap WithDesk (ap (λ (ps : List Place). record c.desk { places = ps }) (places_again moves c.desk.places))

    pub renamed_leads : (row : DeskRow) (e : Crew) → IsRowBy marked c row e
        → IsRowBy marked_from (renamed_crew to c) (renamed_row to from row) (renamed_crew to e)
    renamed_leads row e leads =
        (renamed_answered row leads.0, ap (renamed_crew to) leads.1 ∙ sym (renamed_after row))

pub owners_moved : (to : ℕ → ℕ) (c : Crew) (k : Key)
    → owner_of (at_desk (renamed_crew to c) k) ≡ relocated_handle to (owner_of (at_desk c k))
owners_moved to c k = ap owner_of (moved_under to c.desk.places k) ∙ owner_moved to (at_desk c k)

-- ---- along a run

module _ (to from : ℕ → ℕ) (back : (h : ℕ) → from (to h) ≡ h) where
  pub renamed_run_by : (marked : ℕ → Bool) (rows : List DeskRow) (c e : Crew) → IsRunBy marked c rows e
      → IsRunBy (λ h. marked (from h)) (renamed_crew to c) (renamed_rows to from rows) (renamed_crew to e)
  renamed_run_by marked [] c e run = ap (renamed_crew to) run
  renamed_run_by marked (row ∷ rest) c e run = (
    renamed_crew to run.0,
    renamed_leads to from back marked c row run.0 run.1,
    renamed_run_by marked rest run.0 e run.2,
  )

  pub renamed_run : (rows : List DeskRow) (c e : Crew) → IsDeskRun c rows e
      → IsDeskRun (renamed_crew to c) (renamed_rows to from rows) (renamed_crew to e)
  renamed_run [] c e run = ap (renamed_crew to) run
  renamed_run (row ∷ rest) c e run = (
    renamed_crew to run.0,
    ((λ h. run.1.0 (from h)), renamed_leads to from back run.1.0 c row run.0 run.1.1),
    renamed_run rest run.0 e run.2,
  )
