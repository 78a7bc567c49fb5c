-- What holds of a marker's lists, as objects are marked, found, taken and freed.
use Rattle.ref_mark.proofs.Common.{◌≡◌, ℕ, ◌+◌, ◌<◌, ◌≤◌, Bool, true, false, ◌==◌, ◌||◌, not, refl, sym, ◌∙◌, ap, subst}
use Rattle.ref_mark.proofs.Common.{List, [], ◌∷◌, ◌++◌, length, map, take, drop, replicate, get_or, set, Some, None}
use Rattle.ref_mark.proofs.Common.{zero, suc, Option, if◌then◌else◌, option_map, arith, slice_set, true≢false, ne_eqb}
use Rattle.ref_mark.proofs.Common.{false_from_ne_true, append-nil, drop_all, take_all, length-map, length-set}
use Rattle.ref_mark.proofs.Common.{length-replicate, length-append, refers_into, has, is_there, made, Heap, Object}
use Rattle.ref_mark.proofs.Common.{reference_at, joined, AreDistinct, list_at, is_in, is_empty, work_refusal, Config}
use Rattle.ref_mark.proofs.Common.{Phase, Policy, Idle, Marking, Sweeping, Ground, Worklist, first_in, CycleHeap}
use Rattle.ref_mark.proofs.Common.{first_cycle_heap, is_white, shaded, shaded_all, with_found, young, with_made}
use Rattle.ref_mark.proofs.Common.{ground_of, one_more, without_tag, Chain, AreChains, chain_first, linked_last_of}
use Rattle.ref_mark.proofs.Common.{chain_with, chain_without_first, is_tagged, linked_last, listed, lists_of, no_chain}
use Rattle.ref_mark.proofs.Common.{seen_marker, found_in, IsSoundMarker, MayFind, MayGrey, all_marked, all_newly_marked}
use Rattle.ref_mark.proofs.Common.{cleared, Fault, rest_of, numbers, Reference, Tag, IsWellFormed}
use Rattle.ref_mark.proofs.Common.{with_cleared_tag, with_new_tag, look_of, ground_with_heap, is_doomed, is_past_mark}
use Rattle.ref_mark.proofs.Common.{with_changed, with_reference, cases_Bool, inl, inr}
use Rattle.std.proofs.lemmas.Bool.{or_cases}
use Rattle.std.specs.List.{list_any}
use Rattle.std.proofs.lemmas.List.{length_push}
use Rattle.std.proofs.Common.{Result, Ok, Err}
use Rattle.ref_mark.specs.CycleHeaps.{is_swept, with_found_taken, swept, is_to_clear, cut_at, found_looked_at}
use Rattle.ref_space.specs.Worklists.{empty_worklist, emptied_list, with_last as list_with, without_first_listed}
use Rattle.ref_space.specs.Worklists.{with_more as list_with_all}
use Rattle.ref_space.specs.Tables.{kept_value, scanned_values}
use Rattle.ref_objects.specs.Grounds.{MayGrow, ground_scanned, healed, is_unmarked}
use Rattle.ref_mark.specs.MarkCalls.{MarkerDoes, scan_reply}
use Rattle.ref_base.specs.declared.heap_step.HeapStep.TheVariants.{Plain}
use Rattle.ref_base.specs.declared.plain_step.PlainStep.TheVariants.{Scan}
use Rattle.ref_base.specs.declared.reply.Reply.TheVariants.{Scanned}
use Rattle.ref_mark.specs.CycleHeaps.{cycle_healed, grey_scanned}
use Rattle.ref_mark.proofs.LoopLemmas.{shaded_marks}
use Rattle.ref_base.specs.Paths.{allowed_referent, targets_of}
use Rattle.ref_mark.proofs.Common.{present, targets_at, is_kept, object_at}
use Rattle.ref_mark.proofs.DistinctLists.{distinct-append}
use Rattle.ref_objects.specs.Grounds.{is_condemned, cut_but, if_done, first_ground, after_freeing, with_new_object}
use Rattle.ref_objects.specs.Grounds.{newly_marked, ground_marked_if_any, ground_healed, occupied, vacated}
use Rattle.ref_objects.specs.Grounds.{ground_brought}
use Rattle.ref_objects.specs.declared.start.Start.{Start}
use Rattle.ref_base.specs.CollectorRows.{without, emptied as none_found}
use Rattle.ref_mark.specs.MarkViews.{AreListed, found_look}
use Rattle.ref_base.specs.KeptPaths.{first_policy}
use Rattle.ref_mark.specs.Chains.{first_looked_at}
use Rattle.ref_base.proofs.HasLaws.{has-right, has-append}
use Rattle.ref_mark.proofs.DoomedLists.{is_there-push}
use Rattle.ref_objects.proofs.NewMarks.{marked-if_any, marked-only, new_mark, all_marked-only, marked-stays, new_marks}
use Rattle.ref_objects.proofs.NewMarks.{new_once}
use Rattle.ref_base.proofs.FoundLists.{with_last, has-with_last, AreDistinct-with_last, joined-emptied}
use Rattle.ref_base.proofs.NewClears.{refers_into-same}
use Rattle.ref_mark.proofs.Shading.{AreDistinct-push}
use Rattle.ref_base.proofs.OneMore.{has-one_more}
use Rattle.ref_mark.proofs.DistinctLists.{distinct_fit, has-taken, AreDistinct-taken}
use Rattle.ref_mark.proofs.LinkLemmas.{link_at-cleared, is_tagged-cleared, is_tagged-written, untagged-new}
use Rattle.ref_mark.proofs.LinkLemmas.{untagged-gone}
use Rattle.ref_mark.proofs.ChainLemmas.{ArePushed, IsSame, lists-same, same_last, same_new, pushes_one, takes_one}
use Rattle.ref_mark.proofs.ChainLemmas.{emptied_lists, list_at-lists_of, chain-is_empty, chain-first, chain-linked}
use Rattle.ref_mark.proofs.ChainLemmas.{walk-none, chain_at}

-- once a mark has ended, the doomed are the white
pub past_refers : (k : CycleHeap) (n : ℕ) → is_past_mark k.phase ≡ true
    → is_to_clear k n ≡ refers_into (is_white k) (reference_at k.heap n)
past_refers k n past =
    refers_into-same (is_doomed k) (is_white k) (λ m. simp past refl) (reference_at k.heap n)

-- ---- the lists themselves

pub length-joined : (lists : List (List ℕ)) (w : ℕ) → length (list_at lists w) ≤ length (joined lists)
length-joined [] w = omega arith
length-joined (ns ∷ lists) zero = grind (arith, length-append)
length-joined (ns ∷ lists) (suc w) = grind (arith, length-append, length-joined lists w)

-- one of the marked that stands in no list becomes grey
listed_greyed : (marked grey : List ℕ) (found : List (List ℕ)) (phase : Phase) (n : ℕ) → has marked n ≡ true
    → has grey n ≡ false → has (joined found) n ≡ false → AreListed marked grey found phase
    → AreListed marked (grey ++ n ∷ []) found phase
listed_greyed marked grey found phase n there new lacks listed = grind (arith, AreDistinct-push, has-append)

-- a worker finds one of the marked that stands in no list
listed_found : (marked grey : List ℕ) (found : List (List ℕ)) (phase : Phase) (w n : ℕ) → w < length found
    → is_in phase Sweeping ≡ false → has marked n ≡ true → has grey n ≡ false → has (joined found) n ≡ false
    → AreListed marked grey found phase → AreListed marked grey (with_last found w n) phase
listed_found marked grey found phase w n within going there black new listed =
    grind (arith, has-with_last, AreDistinct-with_last)

-- a worker's first is taken
listed_taken : (marked grey : List ℕ) (found : List (List ℕ)) (phase : Phase) (w : ℕ) (ms : List ℕ)
    → list_at found w ≡ ms → AreListed marked grey found phase
    → AreListed marked grey (slice_set found w (rest_of ms)) phase
listed_taken marked grey found phase w [] is listed =
    subst (λ ns. AreListed marked grey ns phase) (sym (nothing_taken found w is)) listed
  where
    nothing_taken : (found : List (List ℕ)) (w : ℕ) → list_at found w ≡ [] → slice_set found w [] ≡ found
    nothing_taken [] w is = refl
    nothing_taken (ns ∷ rest) zero is = ap (λ ms. ms ∷ rest) (sym is)
    nothing_taken (ns ∷ rest) (suc w) is = ap (λ mss. ns ∷ mss) (nothing_taken rest w is)
listed_taken marked grey found phase w (n ∷ ms) is listed =
    grind (arith, has-taken found w n ms is, AreDistinct-taken found w n ms is listed.found_once)

-- nothing is found
listed_none : (marked grey : List ℕ) (found : List (List ℕ)) (phase next : Phase) → joined found ≡ []
    → AreDistinct grey → ((n : ℕ) → has grey n ≡ true → has marked n ≡ true) → AreListed marked grey found next
listed_none marked grey found phase next none once marks = grind arith

-- ---- objects come, go and are cleared

-- each object has its tag
pub tagged_if_there : (g : Ground) (n : ℕ) → IsWellFormed g → is_there g.heap.objects n ≡ true
    → is_tagged g.tags n ≡ true
tagged_if_there g n formed there = ap (λ ns. has ns n) formed.tagged ∙ numbered g.heap.objects n there
  where
    numbered : (os : List Object) (n : ℕ) → is_there os n ≡ true → has (numbers os) n ≡ true
    numbered [] n there = absurd (true≢false (sym there))
    numbered (o ∷ os) n there = grind (arith, numbered os n)

module _ {g : Ground} (after : Ground) {grey : Worklist} {found : List Chain} {phase : Phase}
    (config : after.heap.config ≡ g.heap.config) (begins : 1 ≤ after.next) (none : is_tagged after.tags 0 ≡ false)
    (goes : after.condemning ≡ g.condemning) (same : IsSame g.tags after.tags (joined (found_in g found)))
    (sound : IsSoundMarker g grey found phase) where
  -- the lists are as they were where the links are of what stands in them
  found_retagged : found_in after found ≡ found_in g found
  found_retagged = grind (arith, lists-same)

  sound_more : length after.marked ≤ after.heap.config.cells
      → ((n : ℕ) → has g.marked n ≡ true → has after.marked n ≡ true) → IsSoundMarker after grey found phase
  sound_more few grows = grind (arith, lists-same, found_retagged)

  sound_retagged : after.marked ≡ g.marked → IsSoundMarker after grey found phase
  sound_retagged marks = grind (arith, lists-same, found_retagged)

-- nothing but its phase tells the marker's objects from what is seen of them
pub ground_same : {g : Ground} {grey : Worklist} {found : List Chain} {phase : Phase} (how : Policy) (cycle : ℕ)
    → IsSoundMarker g grey found phase → ground_of (seen_marker g grey found phase how cycle) ≡ g
ground_same {g} how cycle sound = λ i. record g { condemning = (sym sound.condemning) i }

-- the next number isn't marked
pub unmarked_next : (g : Ground) → IsWellFormed g → has g.marked g.next ≡ false
unmarked_next g formed = grind arith

-- what is marked already in a sweep needn't be marked as it becomes young
already : (k : CycleHeap) (m d : ℕ) (o : Object) → has k.marked o.no ≡ false
    → young (record k {
      heap = made k.heap m d o;
      next = k.next + 1;
      marked = if is_in k.phase Sweeping then one_more k.marked o.no else k.marked;
      tags = with_new_tag k.tags o.no;
      space = occupied k.space o.no;
    }) o.no ≡ with_made k m d o
already k m d o new = grind (arith, is_there-push, has-one_more)

-- the heap alone
module _ {g after : Ground} {grey : Worklist} {found : List Chain} {phase : Phase} (h : Heap)
    (config : h.config ≡ g.heap.config) (is : after ≡ ground_with_heap g h)
    (sound : IsSoundMarker g grey found phase) where
  pub seen_heaped : (how : Policy) (cycle : ℕ)
      → seen_marker after grey found phase how cycle ≡ record (seen_marker g grey found phase how cycle) { heap = h }
  seen_heaped how cycle = rw (is, config) refl

-- what is handed out has moved
pub sound_brought : {g : Ground} {grey : Worklist} {found : List Chain} {phase : Phase} (value : Option ℕ)
    → IsSoundMarker g grey found phase → IsSoundMarker (ground_brought g value) grey found phase
sound_brought {g} {grey} {found} {phase} value sound = record {
  few = sound.few;
  grey_fits = sound.grey_fits;
  finders = sound.finders;
  begins = sound.begins;
  none_0 = sound.none_0;
  chains = sound.chains;
  listed = sound.listed;
  condemning = sound.condemning;
}

-- a new object
module _ {g after : Ground} {grey : Worklist} {found : List Chain} {phase : Phase} (m d : ℕ) (o : Object)
    (first : o.no ≡ g.next) (is : after ≡ with_new_object g m d o) (sound : IsSoundMarker g grey found phase) where
  made_same : IsSame g.tags after.tags (joined (found_in g found))
  made_same =
      subst (λ (h : Ground). IsSame g.tags h.tags (joined (found_in g found))) (sym is)
      (same_new g.tags o.no (joined (found_in g found)))

  made_begins : 1 ≤ after.next
  made_begins = let begins = sound.begins in grind arith

  made_none : is_tagged after.tags 0 ≡ false
  made_none = let begins = sound.begins in grind (arith, untagged-new)

  made_config : after.heap.config ≡ g.heap.config
  made_config = ap (λ (h : Ground). h.heap.config) is

  made_goes : after.condemning ≡ g.condemning
  made_goes = ap (λ (h : Ground). h.condemning) is

  pub sound_made : IsWellFormed after → IsSoundMarker after grey found phase
  sound_made formed =
      sound_more after made_config made_begins made_none made_goes made_same sound
      (let few = formed.few in let marks = formed.marks in omega (arith, few, marks))
      (λ n was. grind (arith, has-one_more))

  pub found_made : found_in after found ≡ found_in g found
  found_made = found_retagged after made_config made_begins made_none made_goes made_same sound

  pub seen_made : (how : Policy) (cycle : ℕ)
      → seen_marker after grey found phase how cycle
      ≡ record (seen_marker g grey found phase how cycle) {
        heap = made g.heap m d o;
        next = g.next + 1;
        marked = if is_in phase Sweeping then one_more g.marked o.no else g.marked;
        tags = with_new_tag g.tags o.no;
        space = occupied g.space o.no;
      }
  seen_made how cycle = rw found_made (rw is (rw sound.condemning refl))

  -- in a sweep it is marked already, and else as it becomes young
  pub young_made : (how : Policy) (cycle : ℕ) → has g.marked o.no ≡ false
      → young (seen_marker after grey found phase how cycle) o.no
      ≡ with_made (seen_marker g grey found phase how cycle) m d o
  young_made how cycle new =
      ap (λ (k : CycleHeap). young k o.no) (seen_made how cycle)
      ∙ already (seen_marker g grey found phase how cycle) m d o new

-- a reference is cleared
module _ {g after : Ground} {grey : Worklist} {found : List Chain} {phase : Phase} (n cycle : ℕ) (h : Heap)
    (config : h.config ≡ g.heap.config)
    (is : after ≡ record g { heap = h; tags = with_cleared_tag g.tags n cycle })
    (sound : IsSoundMarker g grey found phase) where
  cut_same : IsSame g.tags after.tags (joined (found_in g found))
  cut_same = grind (arith, link_at-cleared, is_tagged-cleared)

  cut_none : is_tagged after.tags 0 ≡ false
  cut_none =
      ap (λ (k : Ground). is_tagged k.tags 0) is ∙ is_tagged-cleared g.tags n cycle 0 ∙ sound.none_0

  cut_config : after.heap.config ≡ g.heap.config
  cut_config = ap (λ (k : Ground). k.heap.config) is ∙ config

  cut_begins : 1 ≤ after.next
  cut_begins = subst (λ (k : Ground). 1 ≤ k.next) (sym is) sound.begins

  pub sound_cut : IsSoundMarker after grey found phase
  sound_cut = sound_retagged after cut_config cut_begins cut_none (ap (λ (k : Ground). k.condemning) is) cut_same sound
      (ap (λ (k : Ground). k.marked) is)

  pub found_cut : found_in after found ≡ found_in g found
  found_cut = found_retagged after cut_config cut_begins cut_none (ap (λ (k : Ground). k.condemning) is) cut_same sound

  pub seen_cut : (how : Policy) (of : ℕ)
      → seen_marker after grey found phase how of
      ≡ record (seen_marker g grey found phase how of) { heap = h; tags = with_cleared_tag g.tags n cycle }
  seen_cut how of = rw found_cut (rw is refl)

pub is_tagged-linked : (ts : List Tag) (c : Chain) (n m : ℕ) → is_tagged (linked_last ts c n) m ≡ is_tagged ts m
is_tagged-linked ts c n m = grind (arith, is_tagged-written)

-- one goes last in a list of the layer above
module _ {g after : Ground} {grey : Worklist} {found : List Chain} {phase : Phase} (c : Chain) (n : ℕ)
    (is : after ≡ record g { tags = linked_last g.tags c n })
    (apart : (c.first == 0) ≡ false → has (joined (found_in g found)) c.last ≡ false)
    (sound : IsSoundMarker g grey found phase) where
  linked_same : IsSame g.tags after.tags (joined (found_in g found))
  linked_same =
      subst (λ (k : Ground). IsSame g.tags k.tags (joined (found_in g found))) (sym is)
      (same_last g.tags c n (joined (found_in g found)) apart)

  linked_none : is_tagged after.tags 0 ≡ false
  linked_none = ap (λ (k : Ground). is_tagged k.tags 0) is ∙ is_tagged-linked g.tags c n 0 ∙ sound.none_0

  linked_begins : 1 ≤ after.next
  linked_begins = subst (λ (k : Ground). 1 ≤ k.next) (sym is) sound.begins

  pub sound_linked : IsSoundMarker after grey found phase
  sound_linked =
      sound_retagged after (ap (λ (k : Ground). k.heap.config) is) linked_begins linked_none
      (ap (λ (k : Ground). k.condemning) is) linked_same sound (ap (λ (k : Ground). k.marked) is)

  pub found_linked : found_in after found ≡ found_in g found
  found_linked =
      found_retagged after (ap (λ (k : Ground). k.heap.config) is) linked_begins linked_none
      (ap (λ (k : Ground). k.condemning) is) linked_same sound

  pub seen_linked : (how : Policy) (cycle : ℕ)
      → seen_marker after grey found phase how cycle
      ≡ record (seen_marker g grey found phase how cycle) { tags = linked_last g.tags c n }
  seen_linked how cycle = rw found_linked (rw is refl)

-- ---- the marked

-- what is condemned is due to be swept, and nobody holds it
pub condemned_swept : (g : Ground) (grey : Worklist) (found : List Chain) (phase : Phase) (how : Policy) (cycle n : ℕ)
    → IsWellFormed g → IsSoundMarker g grey found phase
    → is_condemned g n ≡ is_swept (seen_marker g grey found phase how cycle) n
condemned_swept g grey found phase how cycle n formed sound = grind (arith, has-right)

-- a condemned object goes
module _ {g after : Ground} {grey : Worklist} {found : List Chain} {phase : Phase} (n : ℕ)
    (goes : is_condemned g n ≡ true) (is : after ≡ after_freeing g n) (sound : IsSoundMarker g grey found phase) where
  sweeps : is_in phase Sweeping ≡ true
  sweeps = let phases = sound.condemning in grind arith

  gone_same : IsSame g.tags after.tags (joined (found_in g found))
  gone_same m within there =
      absurd (true≢false (sym within ∙ ap (λ ns. has ns m) (sound.listed.none_left sweeps)))

  gone_none : is_tagged after.tags 0 ≡ false
  gone_none = let none = sound.none_0 in grind (arith, untagged-gone)

  gone_config : after.heap.config ≡ g.heap.config
  gone_config = grind arith

  gone_marks : after.marked ≡ g.marked
  gone_marks = grind arith

  gone_goes : after.condemning ≡ g.condemning
  gone_goes = grind arith

  gone_begins : 1 ≤ after.next
  gone_begins = let begins = sound.begins in grind arith

  sound_gone : IsSoundMarker after grey found phase
  sound_gone = sound_retagged after gone_config gone_begins gone_none gone_goes gone_same sound gone_marks

  found_gone : found_in after found ≡ found_in g found
  found_gone = found_retagged after gone_config gone_begins gone_none gone_goes gone_same sound

module _ {g after : Ground} {grey : Worklist} {found : List Chain} {phase : Phase} (n : ℕ) (formed : IsWellFormed g)
    (is : after ≡ after_freeing g n) (sound : IsSoundMarker g grey found phase) where
  pub sound_freed : IsSoundMarker after grey found phase
  sound_freed =
      elim (cases_Bool (is_condemned g n)) [
        | inl goes ↦ sound_gone n goes is sound
        | inr stays ↦
            subst (λ (h : Ground). IsSoundMarker h grey found phase) (sym (is ∙ simp stays refl)) sound
      ]

  pub seen_freed : (how : Policy) (cycle : ℕ)
      → seen_marker after grey found phase how cycle ≡ swept (seen_marker g grey found phase how cycle) n
  seen_freed how cycle =
      let told = condemned_swept g grey found phase how cycle n formed sound in
      elim (cases_Bool (is_condemned g n)) [
        | inl goes ↦
            let left : Ground = record g {
              heap = record g.heap { objects = without (n ∷ []) g.heap.objects };
              tags = without_tag g.tags n;
              space = vacated g.space n;
            } in
            let same : after ≡ left = is ∙ simp goes refl in
            rw (found_gone n goes is sound) (rw same (simp (sym told ∙ goes) refl))
        | inr stays ↦
            let same : after ≡ g = is ∙ simp stays refl in rw same (simp (sym told ∙ stays) refl)
      ]

-- more objects are marked
module _ {g after : Ground} {grey : Worklist} {found : List Chain} {phase : Phase}
    (is : after ≡ record g { marked = after.marked })
    (grows : (n : ℕ) → has g.marked n ≡ true → has after.marked n ≡ true)
    (sound : IsSoundMarker g grey found phase) where
  pub sound_remarked : IsWellFormed after → IsSoundMarker after grey found phase
  sound_remarked formed = grind arith

  -- one that is marked anew may become grey
  pub may_grey : (how : Policy) (cycle n : ℕ) → has g.marked n ≡ false → has after.marked n ≡ true
      → MayGrey (seen_marker after grey found phase how cycle) n
  may_grey how cycle n was now = grind arith

-- one is, by its number or as what a slot holds
module _ {g after : Ground} {grey : Worklist} {found : List Chain} {phase : Phase} (value : Option ℕ)
    (is : after ≡ ground_marked_if_any g value) (sound : IsSoundMarker g grey found phase) where
  only : after ≡ record g { marked = after.marked }
  only = rw is (marked-only g value)

  grows : (n : ℕ) → has g.marked n ≡ true → has after.marked n ≡ true
  grows n was = rw is (marked-if_any g value n was)

  pub sound_marked : IsWellFormed after → IsSoundMarker after grey found phase
  sound_marked formed = sound_remarked only grows sound formed

  pub may_grey_new : (how : Policy) (cycle n : ℕ) → newly_marked g value ≡ Some n
      → MayGrey (seen_marker after grey found phase how cycle) n
  may_grey_new how cycle n new =
      let one = new_mark g value n new in may_grey only grows sound how cycle n one.0 (rw is one.1)

-- a reference is cleared in its slot, unless it is spared
pub sound_cut_in : {T : Type 0} {g after : Ground} {grey : Worklist} {found : List Chain} {phase : Phase}
    (spare : Bool) (m s : ℕ) (result : Result T Fault) → after ≡ if_done result (cut_but g spare m s) g
    → IsSoundMarker g grey found phase → IsSoundMarker after grey found phase
sound_cut_in {T} {g} {after} {grey} {found} {phase} spare m s (Ok done) is sound = grind arith
sound_cut_in {T} {g} {after} {grey} {found} {phase} spare m s (Err fault) is sound =
    subst (λ (h : Ground). IsSoundMarker h grey found phase) (sym is) sound

-- one that may become grey is the last of the grey list
module _ {g : Ground} {grey : Worklist} {found : List Chain} {phase : Phase} {how : Policy} {cycle : ℕ} (n : ℕ)
    (may : MayGrey (seen_marker g grey found phase how cycle) n) (sound : IsSoundMarker g grey found phase) where
  greyed_listed : AreListed g.marked (grey.stands ++ n ∷ []) (found_in g found) phase
  greyed_listed =
      listed_greyed g.marked grey.stands (found_in g found) phase n may.marked may.new may.lacks sound.listed

  pub grey_has_room : length grey.stands < grey.room
  grey_has_room =
      let fit = distinct_fit (grey.stands ++ n ∷ []) g.marked greyed_listed.grey_once greyed_listed.grey_marked in
      let size = length_push grey.stands n in
      let few = sound.few in
      let fits = sound.grey_fits in
      omega (arith, fit, size, few, fits)

  pub sound_greyed : {l : Worklist} → l ≡ list_with grey n → IsSoundMarker g l found phase
  sound_greyed {l} pushed = grind (arith, greyed_listed)

-- ---- the grey list is taken from, or emptied

pub sound_scanned : {g : Ground} {grey l : Worklist} {found : List Chain} {phase : Phase}
    → l ≡ without_first_listed grey → IsSoundMarker g grey found phase → IsSoundMarker g l found phase
sound_scanned {g} {grey} {l} {found} {phase} taken sound = grind arith

pub sound_cleared : {g : Ground} {grey l : Worklist} {found : List Chain} {phase : Phase}
    → l ≡ emptied_list grey → IsSoundMarker g grey found phase → IsSoundMarker g l found phase
sound_cleared {g} {grey} {l} {found} {phase} cleared sound = grind arith

-- ---- what workers found

-- a step that isn't refused is one of a worker
pub worker_within : (h : Heap) (now phase : Phase) (w : ℕ) → work_refusal h now phase w ≡ None → w < h.config.workers
worker_within h now phase w accepted = grind arith

-- once each list was emptied, all are
pub all_cleared : (cs : List Chain) {ds : List Chain} (count : ℕ) → length cs ≤ count
    → ds ≡ map (λ c. no_chain) (take count cs) ++ drop count cs → ds ≡ map (λ c. no_chain) cs
all_cleared cs count all are = grind (arith, drop_all, append-nil, take_all)

-- no worker has found anything
pub sound_emptied : {g : Ground} {grey : Worklist} {found : List Chain} {phase : Phase}
    → IsSoundMarker g grey found phase → IsSoundMarker g grey (map (λ c. no_chain) found) phase
sound_emptied {g} {grey} {found} {phase} sound =
    let none = emptied_lists g.tags g.heap.config.cells found in
    record {
      few = sound.few;
      grey_fits = sound.grey_fits;
      finders = length-map found (λ c. no_chain) ∙ sound.finders;
      begins = sound.begins;
      none_0 = sound.none_0;
      chains = none.1;
      listed = listed_none g.marked grey.stands (found_in g (map (λ c. no_chain) found)) phase phase
          (ap joined none.0 ∙ joined-emptied (found_in g found)) sound.listed.grey_once sound.listed.grey_marked;
      condemning = sound.condemning;
    }

pub seen_emptied : (g : Ground) (grey : Worklist) (found : List Chain) (phase : Phase) (how : Policy) (cycle : ℕ)
    → seen_marker g grey (map (λ c. no_chain) found) phase how cycle
    ≡ record (seen_marker g grey found phase how cycle) { found = none_found (found_in g found) }
seen_emptied g grey found phase how cycle = rw (emptied_lists g.tags g.heap.config.cells found).0 refl

-- all objects are white
pub sound_whitened : {g after : Ground} {grey : Worklist} {found : List Chain} {phase : Phase} (begun : Phase)
    (ms : List (List ℕ)) → after.heap.config ≡ g.heap.config → after.next ≡ g.next → after.tags ≡ g.tags
    → after.marked ≡ [] → after.condemning ≡ is_in begun Sweeping → grey.stands ≡ []
    → found_in g found ≡ none_found ms → IsSoundMarker g grey found phase → IsSoundMarker after grey found begun
sound_whitened {g} {after} {grey} {found} {phase} begun ms config next tags unmarked spared white none sound =
    grind (arith, joined-emptied)

pub length-lists_of : (ts : List Tag) (most : ℕ) (cs : List Chain) → length (lists_of ts most cs) ≡ length cs
length-lists_of ts most [] = refl
length-lists_of ts most (e ∷ cs) = ap (λ count. suc count) (length-lists_of ts most cs)

-- a worker finds one of the marked that stands in no list
module _ {g after : Ground} {grey : Worklist} {found : List Chain} {phase : Phase} (w n : ℕ) {c d : Chain}
    (within : w < g.heap.config.workers) (read : c ≡ get_or found w c) (tagged : is_tagged g.tags n ≡ true)
    (going : is_in phase Sweeping ≡ false) (there : has g.marked n ≡ true) (black : has grey.stands n ≡ false)
    (new : has (joined (found_in g found)) n ≡ false)
    (is : after ≡ record g { tags = linked_last g.tags c n }) (pushed : d ≡ chain_with c n)
    (sound : IsSoundMarker g grey found phase) where
  is_within : w < length found
  is_within = let count = sound.finders in omega (arith, within, count)

  has_list : list_at (found_in g found) w ≡ listed g.tags g.heap.config.cells c
  has_list = list_at-lists_of g.tags g.heap.config.cells found w c is_within read

  room : length (listed g.tags g.heap.config.cells c) < g.heap.config.cells
  room =
      let fit = distinct_fit (n ∷ joined (found_in g found)) g.marked (new, sound.listed.found_once) all in
      let own = subst (λ ms. length ms ≤ length (joined (found_in g found))) has_list
      (length-joined (found_in g found) w) in
      let few = sound.few in
      omega (arith, fit, own, few)
    where
      all : (m : ℕ) → has (n ∷ joined (found_in g found)) m ≡ true → has g.marked m ≡ true
      all m within = let marks = sound.listed.found_marked in grind arith

  some : (n == 0) ≡ false
  some = ne_eqb n 0 (λ zero. true≢false (sym tagged ∙ ap (is_tagged g.tags) zero ∙ sound.none_0))

  one_found : ArePushed g.tags g.heap.config.cells found w c n
  one_found = search (pushes_one, is_within, some, room)

  pub sound_found : IsSoundMarker after grey (set found w d) phase
  sound_found = rw is (record {
    few = sound.few;
    grey_fits = sound.grey_fits;
    finders = length-set found w d ∙ sound.finders;
    begins = sound.begins;
    none_0 = is_tagged-linked g.tags c n 0 ∙ sound.none_0;
    chains = rw pushed one_found.chains;
    listed = rw (pushed, one_found.lists)
        (listed_found g.marked grey.stands (found_in g found) phase w n finder going there black new sound.listed);
    condemning = sound.condemning;
  })
    where
      finder : w < length (found_in g found)
      finder = subst (λ count. w < count) (sym (length-lists_of g.tags g.heap.config.cells found)) is_within

  pub links_found : linked_last g.tags c n ≡ linked_last_of g.tags (list_at (found_in g found) w) n
  links_found = search (chain-linked, chain_at, is_within, has_list)

  -- a reference is found whose referent is white
  pub seen_found : (how : Policy) (cycle : ℕ)
      → refers_into (is_white (seen_marker g grey found phase how cycle)) (reference_at g.heap n) ≡ true
      → seen_marker after grey (set found w d) phase how cycle
      ≡ with_found (seen_marker g grey found phase how cycle) w n
  seen_found how cycle white = rw (is, pushed) (simp white (rw (one_found.lists, links_found) refl))

-- a worker's first is taken
module _ {g : Ground} {grey : Worklist} {found : List Chain} {phase : Phase} (w : ℕ) {c d : Chain}
    (within : w < g.heap.config.workers) (read : c ≡ get_or found w c)
    (taken : d ≡ chain_without_first g.tags c) (sound : IsSoundMarker g grey found phase) where
  taker_within : w < length found
  taker_within = let count = sound.finders in omega (arith, within, count)

  first_found : chain_first c ≡ first_in (list_at (found_in g found) w)
  first_found =
      chain-first g.tags g.heap.config.cells c
      (chain_at g.tags g.heap.config.cells found w c taker_within read sound.chains)
      ∙ ap first_in (sym (list_at-lists_of g.tags g.heap.config.cells found w c taker_within read))

  -- it is answered with the look at it
  pub first_told : (how : Policy) (cycle : ℕ)
      → option_map (look_of g) (chain_first c) ≡ found_look (seen_marker g grey found phase how cycle) w
  first_told how cycle = ap (option_map (look_of g)) first_found

  one_taken : (lists_of g.tags g.heap.config.cells (set found w (chain_without_first g.tags c))
      ≡ slice_set (found_in g found) w (rest_of (list_at (found_in g found) w)))
      × AreChains g.tags g.heap.config.cells (set found w (chain_without_first g.tags c))
  one_taken = takes_one g.tags g.heap.config.cells found w c taker_within read sound.chains

  pub taken_lists : found_in g (set found w d)
      ≡ slice_set (found_in g found) w (rest_of (list_at (found_in g found) w))
  taken_lists = rw taken one_taken.0

  sound_taken : IsSoundMarker g grey (set found w d) phase
  sound_taken = record {
    few = sound.few;
    grey_fits = sound.grey_fits;
    finders = length-set found w d ∙ sound.finders;
    begins = sound.begins;
    none_0 = sound.none_0;
    chains = rw taken one_taken.1;
    listed = rw taken_lists
        (listed_taken g.marked grey.stands (found_in g found) phase w (list_at (found_in g found) w) refl sound.listed);
    condemning = sound.condemning;
  }

  seen_taken : (how : Policy) (cycle : ℕ)
      → seen_marker g grey (set found w d) phase how cycle
      ≡ with_found_taken (seen_marker g grey found phase how cycle) w
  seen_taken how cycle = rw taken_lists refl

  -- and looked at
  module _ {after : Ground} (cycle : ℕ) (is : after ≡ first_looked_at g (chain_first c) cycle) where
    pub sound_looked : IsSoundMarker after grey (set found w d) phase
    sound_looked = looked (chain_first c) is
      where
        looked : (first : Option ℕ) → after ≡ first_looked_at g first cycle
            → IsSoundMarker after grey (set found w d) phase
        looked None same = subst (λ (k : Ground). IsSoundMarker k grey (set found w d) phase) (sym same) sound_taken
        looked (Some n) is =
            elim (cases_Bool (look_of g n).is_cleared) [
              | inl goes ↦
                  sound_cut n cycle (with_changed g.heap n (with_reference cleared)) refl (is ∙ simp goes refl)
                  sound_taken
              | inr stays ↦
                  subst (λ (k : Ground). IsSoundMarker k grey (set found w d) phase) (sym (is ∙ simp stays refl))
                  sound_taken
            ]

    pub seen_looked : (how : Policy) → is_past_mark phase ≡ true
        → seen_marker after grey (set found w d) phase how cycle
        ≡ found_looked_at (seen_marker g grey found phase how cycle) w (list_at (found_in g found) w)
    seen_looked how past = looked (list_at (found_in g found) w) (is ∙ ap (λ f. first_looked_at g f cycle) first_found)
      where
        k : CycleHeap
        k = seen_marker g grey found phase how cycle

        looked : (ns : List ℕ) → after ≡ first_looked_at g (first_in ns) cycle
            → seen_marker after grey (set found w d) phase how cycle ≡ found_looked_at k w ns
        looked [] same =
            ap (λ (h : Ground). seen_marker h grey (set found w d) phase how cycle) same ∙ seen_taken how cycle
        looked (n ∷ ns) is =
            elim (cases_Bool (look_of g n).is_cleared) [
              | inl goes ↦
                  simp (past_refers k n past ∙ goes)
                  (seen_cut n cycle (with_changed g.heap n (with_reference cleared)) refl (is ∙ simp goes refl)
                  sound_taken how cycle
                  ∙ ap (λ (j : CycleHeap). cut_at j n) (seen_taken how cycle))
              | inr stays ↦
                  let same : after ≡ g = is ∙ simp stays refl in
                  simp (past_refers k n past ∙ stays)
                  (ap (λ (h : Ground). seen_marker h grey (set found w d) phase how cycle) same ∙ seen_taken how cycle)
            ]

-- some worker has found something where a chain isn't empty
is_empty-append : (ns ms : List ℕ) → not (is_empty (ns ++ ms)) ≡ (not (is_empty ns) || not (is_empty ms))
is_empty-append [] ms = refl
is_empty-append (n ∷ ns) ms = refl

pub any_found : (ts : List Tag) (most : ℕ) (cs : List Chain) → AreChains ts most cs
    → list_any (λ (c : Chain). not (c.first == 0)) cs ≡ not (is_empty (joined (lists_of ts most cs)))
any_found ts most [] chains = refl
any_found ts most (c ∷ cs) chains =
    search (is_empty-append, any_found ts most cs chains.1, chain-is_empty ts most c chains.0)

-- ---- a new marker

pub are_none : (ts : List Tag) (most count : ℕ) → AreChains ts most (replicate count no_chain)
    × (lists_of ts most (replicate count no_chain) ≡ replicate count [])
are_none ts most zero = (tt, refl)
are_none ts most (suc count) = search (walk-none, are_none ts most count)

pub joined-none : (count : ℕ) → joined (replicate count []) ≡ []
joined-none zero = refl
joined-none (suc count) = joined-none count

-- at first all lists are empty
pub sound_first : (config : Config) (heap_no : ℕ) (start : Start) → 1 ≤ start.obj
    → IsSoundMarker (first_ground config heap_no start) (empty_worklist config.cells)
    (replicate config.workers no_chain) Idle
sound_first config heap_no start begins =
    let none = are_none [] config.cells config.workers in
    record {
      few = omega arith;
      grey_fits = omega arith;
      finders = length-replicate config.workers no_chain;
      begins = begins;
      none_0 = refl;
      chains = none.0;
      listed = listed_none [] [] _ Idle Idle (ap joined none.1 ∙ joined-none config.workers) tt
          (λ n there. absurd (true≢false (sym there)));
      condemning = refl;
    }

pub seen_first : (config : Config) (heap_no : ℕ) (start : Start) {g : Ground} {grey : Worklist} {found : List Chain}
    {policy : Policy} → policy ≡ first_policy config
    → g ≡ first_ground config heap_no start → grey ≡ empty_worklist config.cells
    → found ≡ replicate config.workers no_chain
    → seen_marker g grey found Idle policy start.cycle ≡ first_cycle_heap config heap_no start
seen_first config heap_no start {g} {grey} {found} {policy} fixed objects greys lists =
    rw (fixed, objects, greys, lists, (are_none [] config.cells config.workers).1) refl

-- ---- a scan

-- what is marked anew becomes grey
listed_anew : (g : Ground) (held : List (Option ℕ)) (grey : List ℕ) (found : List (List ℕ)) (phase : Phase)
    → AreListed g.marked grey found phase
    → AreListed (all_marked g held).marked (grey ++ all_newly_marked g held) found phase
listed_anew g held grey found phase lists = record {
  grey_once = distinct-append grey (all_newly_marked g held) lists.grey_once (new_once g held) (λ n there.
      false_from_ne_true (has (all_newly_marked g held) n) (λ new.
      true≢false (sym (lists.grey_marked n there) ∙ (new_marks g held n new).0)));
  grey_marked = λ n there.
      elim (or_cases (has grey n) (has (all_newly_marked g held) n)
      (sym (has-append grey (all_newly_marked g held) n) ∙ there)) [
        | inl was ↦ marked-stays g held n (lists.grey_marked n was)
        | inr new ↦ (new_marks g held n new).1
      ];
  found_once = lists.found_once;
  found_marked = λ n there. marked-stays g held n (lists.found_marked n there);
  apart = λ n there.
      elim (or_cases (has grey n) (has (all_newly_marked g held) n)
      (sym (has-append grey (all_newly_marked g held) n) ∙ there)) [
        | inl was ↦ lists.apart n was
        | inr new ↦
            false_from_ne_true (has (joined found) n) (λ stands.
            true≢false (sym (lists.found_marked n stands) ∙ (new_marks g held n new).0))
      ];
  none_left = lists.none_left;
}

present-append : (xs ys : List (Option ℕ)) → present (xs ++ ys) ≡ present xs ++ present ys
present-append [] ys = refl
present-append (Some n ∷ xs) ys = ap (λ ns. n ∷ ns) (present-append xs ys)
present-append (None ∷ xs) ys = present-append xs ys

-- what a scan marks are the targets of its object
present-kept : (keeps : Reference → Bool) (r : Option Reference)
    → present (kept_value keeps r) ≡ allowed_referent keeps r
present-kept keeps None = refl
present-kept keeps (Some r) = grind arith

targets_present : (keeps : Reference → Bool) (o : Option Object)
    → present (scanned_values keeps o) ≡ targets_of keeps o
targets_present keeps None = refl
targets_present keeps (Some o) =
    present-append o.fields (kept_value keeps o.reference) ∙ ap (λ ns. present o.fields ++ ns)
    (present-kept keeps o.reference)

-- an object may be healed before what it leads to becomes grey, or behind that
healed-shaded : (k : CycleHeap) (n : ℕ) (ms : List ℕ)
    → cycle_healed (shaded_all k ms) n ≡ shaded_all (cycle_healed k n) ms
healed-shaded k n [] = refl
healed-shaded k n (m ∷ ms) =
    healed-shaded (shaded k m) n ms ∙ ap (λ (j : CycleHeap). shaded_all j ms) (once k n m)
  where
    once : (k : CycleHeap) (n m : ℕ) → cycle_healed (shaded k m) n ≡ shaded (cycle_healed k n) m
    once k n m = grind arith

-- a list of distinct marked objects may grow
pub may_grow : {g : Ground} {grey : Worklist} {found : List Chain} {phase : Phase} → IsWellFormed g
    → IsSoundMarker g grey found phase → MayGrow g grey
may_grow {g} {grey} {found} {phase} formed sound = record {
  room = let few = formed.few in let fits = sound.grey_fits in omega (arith, few, fits);
  marked = distinct_fit grey.stands g.marked sound.listed.grey_once sound.listed.grey_marked;
}

-- the first of the grey list is scanned
module _ {g after : Ground} {grey l : Worklist} {found : List Chain} {phase : Phase} (how : Policy) (n : ℕ)
    (is : after ≡ ground_scanned (is_kept how) g n)
    (pushed : l ≡ list_with_all grey (all_newly_marked g (scanned_values (is_kept how) (object_at g.heap.objects n))))
    (sound : IsSoundMarker g grey found phase) where
  abbrev held : List (Option ℕ)
  held = scanned_values (is_kept how) (object_at g.heap.objects n)

  scanned_only : after ≡ record g { marked = (all_marked g held).marked; space = healed g.space n }
  scanned_only = is ∙ ap (λ h. ground_healed h n) (all_marked-only g held)

  pub sound_blackened : IsWellFormed after → IsSoundMarker after l found phase
  sound_blackened formed =
      let few : length (all_marked g held).marked ≤ g.heap.config.cells =
      subst (λ (h : Ground). length h.marked ≤ h.heap.config.cells) scanned_only
      (let less = formed.few in let marks = formed.marks in omega (arith, less, marks)) in
      rw (scanned_only, pushed) (record {
        few = few;
        grey_fits = sound.grey_fits;
        finders = sound.finders;
        begins = sound.begins;
        none_0 = sound.none_0;
        chains = sound.chains;
        listed = listed_anew g held grey.stands (found_in g found) phase sound.listed;
        condemning = sound.condemning;
      })

  pub seen_blackened : (cycle : ℕ)
      → seen_marker after l found phase how cycle
      ≡ shaded_all (cycle_healed (seen_marker g grey found phase how cycle) n)
      (targets_at (is_kept how) g.heap.objects n)
  seen_blackened cycle =
      let k : CycleHeap = seen_marker g grey found phase how cycle in
      rw (scanned_only, pushed)
      (ap (λ (h : Ground). cycle_healed (record k {
        marked = (all_marked h held).marked;
        grey = grey.stands ++ all_newly_marked h held;
      }) n) (sym (ground_same how cycle sound))
      ∙ ap (λ (j : CycleHeap). cycle_healed j n) (shaded_marks k held)
      ∙ healed-shaded k n (present held)
      ∙ ap (shaded_all (cycle_healed k n)) (targets_present (is_kept how) (object_at g.heap.objects n)))

  -- whether it is a reference to a white object then
  pub refers_blackened : (cycle : ℕ) {finds : Bool}
      → finds ≡ refers_into (is_unmarked after) (reference_at g.heap n)
      → refers_into (is_white (seen_marker after l found phase how cycle)) (reference_at after.heap n) ≡ finds
  refers_blackened cycle asked =
      ap (λ (h : Ground). refers_into (is_unmarked after) (reference_at h.heap n)) scanned_only ∙ sym asked

-- where a reference has no white referent, the worker finds nothing
pub found_nothing : (k : CycleHeap) (w n : ℕ) → refers_into (is_white k) (reference_at k.heap n) ≡ false
    → k ≡ with_found k w n
found_nothing k w n none = simp none refl

-- so the step is done
none_first : {n : ℕ} → None ≡ Some n → ⊥
none_first same = absurd (cc)

same_first : {m n : ℕ} → Some m ≡ Some n → m ≡ n
same_first same = cc

pub scan_done : (g : Ground) (grey : Worklist) (found : List Chain) {l : Worklist} {phase : Phase} {how : Policy}
    {cycle : ℕ} {now after : CycleHeap} (w n : ℕ) → seen_marker g grey found phase how cycle ≡ now
    → work_refusal now.heap now.phase Marking w ≡ None → first_in grey.stands ≡ Some n
    → l ≡ without_first_listed grey
    → after ≡ with_found (shaded_all (cycle_healed (seen_marker g l found phase how cycle) n)
    (targets_at (is_kept how) g.heap.objects n)) w n
    → MarkerDoes now (Plain (Scan w)) (Scanned n) after
scan_done g grey found {l} {phase} {how} {cycle} {now} {after} w n is accepted first taken done =
    by grey.stands refl
  where
    left : List ℕ → ℕ → CycleHeap
    left ns m =
        with_found (shaded_all (cycle_healed (record (seen_marker g grey found phase how cycle) { grey = ns }) m)
        (targets_at (is_kept how) g.heap.objects m)) w m

    free : work_refusal g.heap phase Marking w ≡ None
    free = subst (λ (j : CycleHeap). work_refusal j.heap j.phase Marking w ≡ None) (sym is) accepted

    by : (ns : List ℕ) → grey.stands ≡ ns → MarkerDoes now (Plain (Scan w)) (Scanned n) after
    by [] none = absurd (none_first (sym (ap first_in none) ∙ first))
    by (m ∷ ms) stand =
        let same : m ≡ n = same_first (sym (ap first_in stand) ∙ first) in
        subst (λ (j : CycleHeap). MarkerDoes j (Plain (Scan w)) (Scanned n) after) is
        (record {
          answer = simp free (ap scan_reply (sym first));
          after = simp free
              (done ∙ ap (λ (x : Worklist). left x.stands n) taken ∙ ap (λ ns. left (rest_of ns) n) stand
              ∙ ap (left ms) (sym same) ∙ sym (ap (grey_scanned (seen_marker g grey found phase how cycle) w) stand));
        })

-- what grows as objects become grey: no list but the grey, and that by the unmarked alone
pub record Greys (k l : CycleHeap) : Type 0 where
  pub heap : l.heap ≡ k.heap
  pub found : l.found ≡ k.found
  pub phase : l.phase ≡ k.phase
  pub black : (n : ℕ) → has k.marked n ≡ true → has k.grey n ≡ false
      → (has l.marked n ≡ true) × (has l.grey n ≡ false)

greys_one : (k : CycleHeap) (n : ℕ) → Greys k (shaded k n)
greys_one k n = grind (arith, has-one_more, has-append)

greys_all : (k : CycleHeap) (ns : List ℕ) → Greys k (shaded_all k ns)
greys_all k [] = record { heap = refl; found = refl; phase = refl; black = λ n there black. (there, black) }
greys_all k (n ∷ ns) =
    let first : Greys k (shaded k n) = greys_one k n in
    let later : Greys (shaded k n) (shaded_all (shaded k n) ns) = greys_all (shaded k n) ns in
    record {
      heap = later.heap ∙ first.heap;
      found = later.found ∙ first.found;
      phase = later.phase ∙ first.phase;
      black = λ m there black. let own = first.black m there black in later.black m own.0 own.1;
    }

-- of what was shaded
pub shaded_greys : (k j : CycleHeap) (ns : List ℕ) → j ≡ shaded_all k ns → Greys k j
shaded_greys k j ns is = subst (λ (m : CycleHeap). Greys k m) (sym is) (greys_all k ns)

-- the first of the grey list may be found by the worker that scans it, also once its targets are grey
pub scan_may_find : {g : Ground} {grey l : Worklist} {found : List Chain} {phase : Phase} {how : Policy} {cycle : ℕ}
    {now after : CycleHeap} (w n : ℕ) → seen_marker g grey found phase how cycle ≡ now
    → work_refusal now.heap now.phase Marking w ≡ None → IsSoundMarker g grey found phase
    → first_in grey.stands ≡ Some n → l ≡ without_first_listed grey
    → Greys (cycle_healed (seen_marker g l found phase how cycle) n) after → MayFind after w n
scan_may_find {g} {grey} {l} {found} {phase} {how} {cycle} {now} {after} w n is accepted sound first taken grown =
    grind arith

-- ---- what calls know of the heap as it is seen

-- of what a worker may find
pub may_find : {k now : CycleHeap} {v w : ℕ} (n : ℕ) → k ≡ now → v ≡ w → MayFind now w n → MayFind k v n
may_find n is same may = rw (is, same) may

-- a reference with a referent is there
pub referring_is_there : (test : ℕ → Bool) (h : Heap) (n : ℕ) → refers_into test (reference_at h n) ≡ true
    → is_there h.objects n ≡ true
referring_is_there test h n refers = grind arith
