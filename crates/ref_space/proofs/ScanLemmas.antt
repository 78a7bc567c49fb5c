-- What a scan of an object marks, lists and leaves, where the object lies.
use Rattle.ref_space.specs.Moves.{Ways}
use Rattle.ref_space.proofs.Common.{◌≡◌, ℕ, ◌+◌, ◌<◌, Bool, true, false, refl, sym, ◌∙◌, ap, arith, List, []}
use Rattle.ref_space.proofs.Common.{◌∷◌}
use Rattle.ref_space.proofs.Common.{length, take, Option, Some, None, is_some, slice_index_or, append-nil}
use Rattle.ref_space.proofs.Common.{length-append, if_any, Table, Tabled, object_in, tabled_at}
use Rattle.ref_space.proofs.Common.{tabled_fields, tabled_reference, changed_tabled, marked_of, with_marked}
use Rattle.ref_space.proofs.Common.{is_unmarked_in}
use Rattle.ref_space.proofs.Common.{reference_in}
use Rattle.std.proofs.lemmas.List.{append_assoc}
use Rattle.ref_base.specs.DoomedSets.{any_is, refers_into}
use Rattle.ref_base.specs.Graphs.{Object, Reference}
use Rattle.ref_base.proofs.NewClears.{refers_into-same}
use Rattle.ref_space.specs.Tables.{MayList, LiesAt, is_unmarked_at, marked_if, anew_if, marked_each, anew_each}
use Rattle.ref_space.specs.Tables.{with_healed}
use Rattle.ref_space.specs.Tables.{changed, kept_value, scanned_values, table_healed, table_scanned}
use Rattle.ref_space.specs.Worklists.{Worklist, with_more}
use Rattle.ref_space.specs.Tables.{RoundView}
use Rattle.ref_space.proofs.ChangeLemmas.{changed_tabled-none}
use Rattle.ref_space.proofs.MarkCounts.{marks_more, length-unmarked_of}
use Rattle.ref_space.proofs.TableMarks.{marked_each-append, anew_each-append, marked_each-more, anew_each-more}

-- ---- marks change nothing but marks

round-marked_each : (t : Table) (values : List (Option ℕ)) → (marked_each t values).round ≡ t.round
round-marked_each t [] = refl
round-marked_each t (None ∷ xs) = round-marked_each t xs
round-marked_each t (Some n ∷ xs) = round-marked_each (marked_if t (Some n)) xs

occupants-marked_each : (t : Table) (values : List (Option ℕ)) → (marked_each t values).occupants ≡ t.occupants
occupants-marked_each t [] = refl
occupants-marked_each t (None ∷ xs) = occupants-marked_each t xs
occupants-marked_each t (Some n ∷ xs) = occupants-marked_each (marked_if t (Some n)) xs

ways-marked_each : (t : Table) (values : List (Option ℕ)) → (marked_each t values).ways ≡ t.ways
ways-marked_each t [] = refl
ways-marked_each t (None ∷ xs) = ways-marked_each t xs
ways-marked_each t (Some n ∷ xs) = ways-marked_each (marked_if t (Some n)) xs

pub tuned_still : {now : Table} (t : Table) (values : List (Option ℕ)) → now ≡ marked_each t values
    → t.ways.tuned ≡ true → now.ways.tuned ≡ true
tuned_still t values is before =
    ap (λ (s : Table). s.ways.tuned) is ∙ ap (λ (w : Ways). w.tuned) (ways-marked_each t values) ∙ before

pub lies_still : {now : Table} (t : Table) (values : List (Option ℕ)) (n p : ℕ) → now ≡ marked_each t values
    → LiesAt t n p → LiesAt now n p
lies_still t values n p is lies =
    ap (λ (s : Table). slice_index_or s.occupants p None) is
    ∙ ap (λ (os : List (Option ℕ)). slice_index_or os p None) (occupants-marked_each t values) ∙ lies

object-marked : (r m n : ℕ) (ks : List Tabled)
    → object_in (tabled_at (changed_tabled ks m (with_marked r)) n) ≡ object_in (tabled_at ks n)
object-marked r m n [] = refl
object-marked r m n (k ∷ ks) = grind (arith, object-marked r m n ks)

pub object-marked_each : (t : Table) (values : List (Option ℕ)) (n : ℕ)
    → object_in (tabled_at (marked_each t values).tabled n) ≡ object_in (tabled_at t.tabled n)
object-marked_each t [] n = refl
object-marked_each t (None ∷ xs) n = object-marked_each t xs n
object-marked_each t (Some m ∷ xs) n =
    object-marked_each (marked_if t (Some m)) xs n ∙ object-marked t.round.number m n t.tabled

-- ---- a list has room for what is marked anew

length-changed : (f : Tabled → Tabled) (n : ℕ) (ks : List Tabled) → length (changed_tabled ks n f) ≡ length ks
length-changed f n [] = refl
length-changed f n (k ∷ ks) = grind (arith, length-changed f n ks)

-- where one isn't marked, fewer are marked than there are
fewer_marked : (r n : ℕ) (ks : List Tabled) → is_unmarked_in r (tabled_at ks n) ≡ true
    → length (marked_of r ks) < length ks
fewer_marked r n [] new = absurd (cc)
fewer_marked r n (k ∷ ks) new = grind (arith, length-unmarked_of r ks, fewer_marked r n ks)

pub may_push : {t : Table} {l : Worklist} → MayList t l → (v : Option ℕ) {n : ℕ} → Some n ≡ anew_if t v
    → length l.stands < l.room
may_push may None is = absurd (cc)
may_push {t} {l} may (Some m) is =
    grind (arith, may.room, may.marked, fewer_marked t.round.number m t.tabled)

may_list-once : {t : Table} {l : Worklist} → MayList t l → (v : Option ℕ)
    → MayList (marked_if t v) (with_more l (if_any (anew_if t v)))
may_list-once {t} {l} may None = rw (append-nil l.stands) may
may_list-once {t} {l} may (Some n) = record {
  room = rw (length-changed (with_marked t.round.number) n t.tabled) may.room;
  marked =
      let more = marks_more t.round.number t.tabled n refl refl in
      grind (arith, more, may.marked, length-append);
}

pub may_list-each : (t : Table) (l : Worklist) → MayList t l → (values : List (Option ℕ))
    → MayList (marked_each t values) (with_more l (anew_each t values))
may_list-each t l may [] = rw (append-nil l.stands) may
may_list-each t l may (v ∷ vs) =
    rw (← append_assoc l.stands (if_any (anew_if t v)) (anew_each (marked_if t v) vs))
    (may_list-each (marked_if t v) (with_more l (if_any (anew_if t v))) (may_list-once may v) vs)

-- ---- a loop over fields, one field on

pub listed_on : (t : Table) (l : Worklist) {now after : Table} {grey then : Worklist} (held : List (Option ℕ))
    (field : ℕ) {value marked : Option ℕ}
    → field < length held → now ≡ marked_each t (take field held) → grey ≡ with_more l (anew_each t (take field held))
    → value ≡ slice_index_or held field None → marked ≡ anew_if now value → after ≡ marked_if now value
    → then ≡ with_more grey (if_any marked)
    → (after ≡ marked_each t (take (field + 1) held)) × (then ≡ with_more l (anew_each t (take (field + 1) held)))
listed_on t l {now} {after} {grey} {then} held field {value} {marked} within so_far listed reads new is pushed =
    (after_is, then_is)
  where
    after_is : after ≡ marked_each t (take (field + 1) held)
    after_is = grind (arith, marked_each-more t held field within)

    then_is : then ≡ with_more l (anew_each t (take (field + 1) held))
    then_is = grind (arith, anew_each-more t held field within, append_assoc)

-- ---- the referent

-- what is marked is marked then
marked_at : (r n : ℕ) (ks : List Tabled) → is_unmarked_at r (changed_tabled ks n (with_marked r)) n ≡ false
marked_at r n [] = refl
marked_at r n (k ∷ ks) = grind (arith, marked_at r n ks)

pub none_unmarked : (t : Table) (v : Option ℕ)
    → any_is (is_unmarked_at t.round.number (marked_if t v).tabled) v ≡ false
none_unmarked t None = refl
none_unmarked t (Some n) = marked_at t.round.number n t.tabled

-- ---- a whole scan

unmarked-healed : (r q m n : ℕ) (ks : List Tabled)
    → is_unmarked_at r (changed_tabled ks m (with_healed q)) n ≡ is_unmarked_at r ks n
unmarked-healed r q m n [] = refl
unmarked-healed r q m n (k ∷ ks) = grind (arith, unmarked-healed r q m n ks)

module _ (keeps : Reference → Bool) (t : Table) (n : ℕ) where
  abbrev held : List (Option ℕ)
  held = tabled_fields (tabled_at t.tabled n)

  abbrev kept : List (Option ℕ)
  kept = kept_value keeps (tabled_reference (tabled_at t.tabled n))

  module _ {fields referent after : Table} (l : Worklist) {grey then : Worklist}
      (first : fields ≡ marked_each t (tabled_fields (tabled_at t.tabled n)))
      (second : referent ≡ marked_each fields (kept_value keeps (tabled_reference (tabled_at fields.tabled n))))
      (listed : grey ≡ with_more l (anew_each t (tabled_fields (tabled_at t.tabled n))))
      (more : then
      ≡ with_more grey (anew_each fields (kept_value keeps (tabled_reference (tabled_at fields.tabled n)))))
      (healed : after ≡ table_healed referent n) where
    reference_still : tabled_reference (tabled_at fields.tabled n) ≡ tabled_reference (tabled_at t.tabled n)
    reference_still =
        ap (λ (s : Table). tabled_reference (tabled_at s.tabled n)) first
        ∙ ap (λ (o : Option Object). reference_in o) (object-marked_each t held n)

    marked_both : referent ≡ marked_each t (scanned_values keeps (object_in (tabled_at t.tabled n)))
    marked_both =
        second ∙ ap (λ r. marked_each fields (kept_value keeps r)) reference_still
        ∙ ap (λ (s : Table). marked_each s kept) first ∙ sym (marked_each-append t held kept)

    pub scanned : after ≡ table_scanned keeps t n
    scanned = healed ∙ ap (λ (s : Table). table_healed s n) marked_both

    pub scanned_listed : then ≡ with_more l (anew_each t (scanned_values keeps (object_in (tabled_at t.tabled n))))
    scanned_listed =
        more ∙ ap (λ r. with_more grey (anew_each fields (kept_value keeps r))) reference_still
        ∙ ap (λ (s : Table). with_more grey (anew_each s kept)) first
        ∙ ap (λ (g : Worklist). with_more g (anew_each (marked_each t held) kept)) listed
        ∙ ap (λ ns. let long : Worklist = record l { stands = ns } in long) (append_assoc l.stands (anew_each t held)
        (anew_each (marked_each t held) kept))
        ∙ ap (with_more l) (sym (anew_each-append t held kept))

    pub scanned_finds : {finds : Bool}
        → finds ≡ refers_into (is_unmarked_at fields.round.number referent.tabled) (tabled_reference (tabled_at
        fields.tabled n))
        → finds ≡ refers_into (is_unmarked_at t.round.number after.tabled) (tabled_reference (tabled_at t.tabled n))
    scanned_finds is =
        is ∙ ap (refers_into (is_unmarked_at fields.round.number referent.tabled)) reference_still
        ∙ ap (λ r. refers_into (is_unmarked_at r referent.tabled) (tabled_reference (tabled_at t.tabled n)))
        (ap (λ (s : Table). s.round.number) first ∙ ap (λ (r : RoundView). r.number) (round-marked_each t held))
        ∙ refers_into-same (is_unmarked_at t.round.number referent.tabled) (is_unmarked_at t.round.number after.tabled)
        (λ m.
        sym (ap (λ (s : Table). is_unmarked_at t.round.number s.tabled m) healed
        ∙ unmarked-healed t.round.number referent.round.number n m referent.tabled))
        (tabled_reference (tabled_at t.tabled n))

pub round-scanned : (keeps : Reference → Bool) (t : Table) (n : ℕ) → (table_scanned keeps t n).round ≡ t.round
round-scanned keeps t n = round-marked_each t (scanned_values keeps (object_in (tabled_at t.tabled n)))

-- an object that isn't there
none_of : (k : Option Tabled) → is_some k ≡ false → k ≡ None
none_of None none = refl
none_of (Some k) none = absurd (cc)

pub unchanged_none : (f : Tabled → Tabled) (t : Table) (n : ℕ) → is_some (tabled_at t.tabled n) ≡ false
    → t ≡ changed t n f
unchanged_none f t n gone =
    ap (λ ks. let same : Table = record t { tabled = ks } in same)
    (sym (changed_tabled-none t.tabled n f (none_of (tabled_at t.tabled n) gone)))

pub scanned_none : (keeps : Reference → Bool) (t : Table) (n : ℕ) → is_some (tabled_at t.tabled n) ≡ false
    → t ≡ table_scanned keeps t n
scanned_none keeps t n gone =
    unchanged_none (with_healed t.round.number) t n gone
    ∙ ap (λ (k : Option Tabled). table_healed (marked_each t (scanned_values keeps (object_in k))) n)
    (sym (none_of (tabled_at t.tabled n) gone))
