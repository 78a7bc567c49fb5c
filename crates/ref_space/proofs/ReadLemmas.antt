-- The word that was read last: where it stands it stays null or of the good colour, and what becomes it.
use Rattle.ref_space.proofs.Common.{◌≡◌, ℕ, ◌<◌, ◌==◌, List, Option, Some, None, refl, sym, ◌∙◌, ap, set, inl, inr}
use Rattle.ref_space.proofs.Common.{cases_Bool, eqb-true, eq-eqb, false≢true, get_or-set_other, get_or-set_same, true}
use Rattle.ref_space.proofs.Common.{Tabled, Entry, cell_at, option_map, place_in, AreIndexed, subst, length}
use Rattle.ref_space.proofs.Common.{IsSoundTable, IsSoundNaming, at_place, occupant_in, Object, Reference, map, zero}
use Rattle.ref_space.proofs.Common.{suc}
use Rattle.ref_space.proofs.Common.{[], ◌∷◌, Bool, false, if◌then◌else◌, slice_index_or, Change, change_of, on_object}
use Rattle.ref_space.proofs.Common.{blanked_unless_marked, referent_of, cleared, with_field, has_field, field_in_cell}
use Rattle.ref_space.proofs.Common.{tabled_reference, Table, seen_table}
use Rattle.ref_base.specs.Heaps.{with_reference, with_stamp, changed_reference}
use Rattle.ref_base.specs.Forgetting.{blanked}
use Rattle.ref_space.specs.declared.cell.Change.TheVariants.{Cut, Stamp, ClearedIn, ClearIn, Link}
use Rattle.ref_space.specs.declared.colour.Colour.{Colour}
use Rattle.ref_space.specs.Naming.{with_referent}
use Rattle.ref_space.specs.Tables.{IfRead, is_marked}
use Rattle.std.proofs.lemmas.Option.{none-some}
use Rattle.ref_space.proofs.PlaceLemmas.{IsPlaceOf, lies_there}
use Rattle.ref_space.specs.declared.word_name.WordName.{WordName}
use Rattle.ref_space.specs.Tables.{RoundView, with_read, word_in, word_name, read_if_good}
use Rattle.ref_space.specs.ColouredWords.{is_in_colour}
use Rattle.ref_space.specs.Places.{IsReadIn}
use Rattle.ref_space.specs.Moves.{Ways}

-- it is null or has the good colour, in each cell
abbrev pub IsReadGood : RoundView → List (Option Tabled) → Type 0
IsReadGood round cells = (place : ℕ) (k : Tabled) → cell_at cells place ≡ Some k → IsReadIn round k

-- where none was read
pub none_read : (round : RoundView) → round.read ≡ None → (k : Tabled) → IsReadIn round k
none_read round none k field is = absurd (none-some _ (sym none ∙ is))

-- ---- a write to a cell

pub same_value : {X : Type 0} {x y : X} → Some x ≡ Some y → x ≡ y
same_value is = cc

pub read_mapped : (round : RoundView) (f : Tabled → Tabled) → ((k : Tabled) → IsReadIn round k → IsReadIn round (f k))
    → (c : Option Tabled) → ((l : Tabled) → c ≡ Some l → IsReadIn round l) → (k : Tabled) → option_map f c ≡ Some k
    → IsReadIn round k
read_mapped round f keeps None good k own = absurd (none-some k own)
read_mapped round f keeps (Some l) good k own = subst (IsReadIn round) (same_value own) (keeps l (good l refl))

module _ (round : RoundView) (cells : List (Option Tabled)) (p : ℕ) (within : p < length cells)
    (good : IsReadGood round cells) where
  pub read_set : (new : Option Tabled) → ((k : Tabled) → new ≡ Some k → IsReadIn round k)
      → IsReadGood round (set cells p new)
  read_set new own q k at =
      elim (cases_Bool (q == p)) [
        | inl here ↦
            own k (sym (get_or-set_same cells p new None within)
            ∙ ap (λ j. cell_at (set cells p new) j) (sym (eqb-true q p here)) ∙ at)
        | inr other ↦
            good q k
            (sym (get_or-set_other cells p q new None (λ same. false≢true (sym other ∙ eq-eqb q p same))) ∙ at)
      ]

  pub read_gone : {new : Option Tabled} → new ≡ None → IsReadGood round (set cells p new)
  read_gone {new} gone = read_set new (λ k is. absurd (none-some k (sym gone ∙ is)))

  pub read_changed : {new : Option Tabled} (f : Tabled → Tabled)
      → ((k : Tabled) → IsReadIn round k → IsReadIn round (f k)) → new ≡ option_map f (cell_at cells p)
      → IsReadGood round (set cells p new)
  read_changed {new} f keeps is =
      read_set new (λ k own. read_mapped round f keeps (cell_at cells p) (good p) k (sym is ∙ own))

-- ---- a word is read

abbrev no_of : Option WordName → ℕ
no_of None = 0
no_of (Some w) = w.no

abbrev field_of : Option WordName → Option ℕ
field_of None = None
field_of (Some w) = w.field

-- the word of this name is good where it stands
pub read_there : {cells : List (Option Tabled)} {es : List Entry} → AreIndexed cells es → {n p : ℕ}
    → IsPlaceOf cells es n p → (round : RoundView) (field : Option ℕ) → round.read ≡ word_name (Some n) field
    → ((k : Tabled) → cell_at cells p ≡ Some k → is_in_colour round.good (word_in field k.object) ≡ true)
    → IsReadGood round cells
read_there {cells} {es} listed {n} {p} place round field is good q k at own same =
    let number : n ≡ k.object.no = ap no_of (sym is ∙ same) in
    let word : field ≡ own = ap field_of (sym is ∙ same) in
    let here : Some q ≡ Some p = sym (listed q k at) ∙ ap (place_in es) (sym number) ∙ place.listed in
    let same_place : q ≡ p = cc in
    subst (λ f. is_in_colour round.good (word_in f k.object) ≡ true) word
    (good k (ap (cell_at cells) (sym same_place) ∙ at))

-- the word of a cell to which a word leads
pub read_led : (cells : List (Option Tabled)) (es : List Entry) → AreIndexed cells es → (round : RoundView)
    (place field : Option ℕ) (c : Option Tabled) → c ≡ at_place cells place
    → round.read ≡ word_name (occupant_in c) field
    → ((k : Tabled) → c ≡ Some k → is_in_colour round.good (word_in field k.object) ≡ true) → IsReadGood round cells
read_led cells es listed round place field None at is good = λ q k own. none_read round is k
read_led cells es listed round None field (Some k) at is good = absurd (none-some k (sym at))
read_led cells es listed round (Some p) field (Some k) at is good =
    read_there listed (lies_there listed k.object.no p (Some k) (sym at) refl) round field is
    (λ l own. good l (at ∙ own))

-- ---- what is written of an object

-- its words stay
pub object_reads : (round : RoundView) (f : Tabled → Tabled) → ((k : Tabled) → (f k).object ≡ k.object) → (k : Tabled)
    → IsReadIn round k → IsReadIn round (f k)
object_reads round f same k =
    subst (λ (o : Object). (field : Option ℕ)
    → IfRead round o.no field (is_in_colour round.good (word_in field o))) (sym (same k))

-- its referent does, or gets null
reference_reads : (round : RoundView) (g : Reference → Reference)
    → ((r : Reference) → is_in_colour round.good r.referent ≡ true → is_in_colour round.good (g r).referent ≡ true)
    → (k : Tabled) → IsReadIn round k → IsReadIn round (on_object (with_reference g) k)
reference_reads round g keeps k read (Some i) same = read (Some i) same
reference_reads round g keeps k read None same = by k.object.reference (read None same)
  where
    by : (r : Option Reference) → is_in_colour round.good (referent_of r) ≡ true
        → is_in_colour round.good (referent_of (changed_reference g r)) ≡ true
    by None is = is
    by (Some r) is = keeps r is

pub change_reads : (round : RoundView) (change : Change) (k : Tabled) → IsReadIn round k
    → IsReadIn round (change_of change k)
change_reads round Cut k read = reference_reads round cleared (λ r is. refl) k read
change_reads round (Stamp stamp) k read = reference_reads round (with_stamp stamp) (λ r is. is) k read
change_reads round (ClearedIn cycle) k read = read
change_reads round (ClearIn cycle) k read = reference_reads round cleared (λ r is. refl) k read
change_reads round (Link to) k read = read

-- all do
nulls_good : (good : Colour) (vs : List (Option ℕ)) (i : ℕ)
    → is_in_colour good (slice_index_or (map (λ v. None) vs) i None) ≡ true
nulls_good good [] i = refl
nulls_good good (v ∷ vs) zero = refl
nulls_good good (v ∷ vs) (suc i) = nulls_good good vs i

pub blanked_reads : (round : RoundView) (n : ℕ) (k : Tabled) → IsReadIn round k
    → IsReadIn round (blanked_unless_marked n k)
blanked_reads round n k read =
    elim (cases_Bool (is_marked n k)) [
      | inl marked ↦ simp marked read
      | inr not_marked ↦ simp not_marked null
    ]
  where
    no_referent : (r : Option Reference) → is_in_colour round.good (referent_of (changed_reference cleared r)) ≡ true
    no_referent None = refl
    no_referent (Some r) = refl

    null : IsReadIn round (on_object blanked k)
    null None same = no_referent k.object.reference
    null (Some i) same = nulls_good round.good k.object.fields i

-- a field or the referent gets a good word
set_good : (good : Colour) (vs : List (Option ℕ)) (i : ℕ) (v : Option ℕ) → is_in_colour good v ≡ true
    → is_in_colour good (slice_index_or (set vs i v) i None) ≡ true
set_good good [] i v is = refl
set_good good (w ∷ ws) zero v is = is
set_good good (w ∷ ws) (suc i) v is = set_good good ws i v is

pub field_good : (good : Colour) (i : ℕ) (v : Option ℕ) → is_in_colour good v ≡ true → (k : Tabled)
    → is_in_colour good (word_in (Some i) (with_field i v k.object)) ≡ true
field_good good i v is k = set_good good k.object.fields i v is

pub referent_good : (good : Colour) (v : Option ℕ) → is_in_colour good v ≡ true → (k : Tabled)
    → is_in_colour good (word_in None (with_reference (with_referent v) k.object)) ≡ true
referent_good good v is k = by k.object.reference
  where
    by : (r : Option Reference) → is_in_colour good (referent_of (changed_reference (with_referent v) r)) ≡ true
    by None = refl
    by (Some r) = is

-- what is read of a field is its word
pub field_is : (k : Tabled) (i : ℕ) (v : Option ℕ) → field_in_cell (Some k) i ≡ Some v → word_in (Some i) k.object ≡ v
field_is k i v held = by (has_field (Some k) i) held
  where
    by : (b : Bool) → (if b then Some (slice_index_or k.object.fields i None) else None) ≡ Some v
        → slice_index_or k.object.fields i None ≡ v
    by true held = same_value held
    by false held = absurd (none-some v held)

pub field_read : (good : Colour) (c : Option Tabled) (i : ℕ) (v : Option ℕ) → field_in_cell c i ≡ Some v
    → is_in_colour good v ≡ true → (k : Tabled) → c ≡ Some k → is_in_colour good (word_in (Some i) k.object) ≡ true
field_read good None i v held is k own = absurd (none-some k own)
field_read good (Some l) i v held is k own =
    ap (λ (m : Tabled). is_in_colour good (word_in (Some i) m.object)) (sym (same_value own))
    ∙ ap (is_in_colour good) (field_is l i v held) ∙ is

pub referent_read : (good : Colour) (c : Option Tabled) (v : Option ℕ) → v ≡ referent_of (tabled_reference c)
    → is_in_colour good v ≡ true → (k : Tabled) → c ≡ Some k → is_in_colour good (word_in None k.object) ≡ true
referent_read good None v held is k own = absurd (none-some k own)
referent_read good (Some l) v held is k own =
    ap (λ (c : Option Tabled). is_in_colour good (referent_of (tabled_reference c))) (sym own)
    ∙ ap (is_in_colour good) (sym held) ∙ is

-- ---- another word counts as read

pub sound_read : {round : RoundView} {cells : List (Option Tabled)} {es : List Entry} {ways : Ways}
    {slots : List (Option ℕ)} {last room count index_room marked : ℕ}
    → IsSoundTable round cells es ways last room count index_room marked × IsSoundNaming round ways cells es slots
    → (word : Option WordName) → IsReadGood (record round { read = word }) cells
    → IsSoundTable (record round { read = word }) cells es ways last room count index_room marked
    × IsSoundNaming (record round { read = word }) ways cells es slots
sound_read sound word good = (
  record {
    placed = sound.0.placed;
    cells_fit = sound.0.cells_fit;
    open_fit = sound.0.open_fit;
    twice = sound.0.twice;
    packed = sound.0.packed;
    counted = sound.0.counted;
    within = sound.0.within;
    index_fits = sound.0.index_fits;
    marks_counted = sound.0.marks_counted;
  },
  record {
    listed = sound.1.listed;
    rooted = sound.1.rooted;
    begun = sound.1.begun;
    apart = sound.1.apart;
    led = sound.1.led;
    read = good;
  },
)

-- and a contract sees it
pub seen_read : {round : RoundView} {cells : List (Option Tabled)} {es : List Entry} {ways : Ways}
    {slots : List (Option ℕ)} {last room count index_room marked : ℕ}
    → IsSoundTable round cells es ways last room count index_room marked × IsSoundNaming round ways cells es slots
    → {t : Table} → seen_table round ways cells es slots last room ≡ t → {word now : Option WordName} → word ≡ now
    → seen_table (record round { read = word }) ways cells es slots last room ≡ with_read t now
seen_read sound {t} view {word} same = ap (λ (s : Table). with_read s word) view ∙ ap (with_read t) same

-- a round in which no word was read
pub read_is : (number : ℕ) (good : Colour) {word : Option WordName} → word ≡ None
    → (let round : RoundView = record { number = number; good = good; read = word } in round)
    ≡ record { number = number; good = good; read = None }
read_is number good none = λ i. record { number = number; good = good; read = none i }

-- none does
pub sound_unread : {round : RoundView} {cells : List (Option Tabled)} {es : List Entry} {ways : Ways}
    {slots : List (Option ℕ)} {last room count index_room marked : ℕ}
    → IsSoundTable round cells es ways last room count index_room marked × IsSoundNaming round ways cells es slots
    → {word : Option WordName} → word ≡ None
    → IsSoundTable (record round { read = word }) cells es ways last room count index_room marked
    × IsSoundNaming (record round { read = word }) ways cells es slots
sound_unread {round} sound {word} none =
    sound_read sound word (λ p k at. none_read (record round { read = word }) none k)

-- once a word is read that is null or has the good colour, it is the one that was read last, and else it is not
module _ {round : RoundView} {cells : List (Option Tabled)} {es : List Entry} {ways : Ways}
    {slots : List (Option ℕ)} {last room count index_room marked : ℕ}
    (sound : IsSoundTable round cells es ways last room count index_room marked
    × IsSoundNaming round ways cells es slots) {t : Table}
    (view : seen_table round ways cells es slots last room ≡ t) where
  pub read_good : {word name : Option WordName} → word ≡ name → (v : Option ℕ) → is_in_colour round.good v ≡ true
      → seen_table (record round { read = word }) ways cells es slots last room
      ≡ with_read t (read_if_good t.round name (Some v))
  read_good {word} {name} same v good =
      seen_read sound view same
      ∙ ap (λ b. with_read t (if b then name else t.round.read))
      (sym good ∙ ap (λ (s : Table). is_in_colour s.round.good v) view)

  pub read_other : (name : Option WordName) (v : Option ℕ) → is_in_colour round.good v ≡ false
      → with_read t (read_if_good t.round name (Some v)) ≡ t
  read_other name v other =
      ap (λ b. with_read t (if b then name else t.round.read))
      (ap (λ (s : Table). is_in_colour s.round.good v) (sym view) ∙ other)
