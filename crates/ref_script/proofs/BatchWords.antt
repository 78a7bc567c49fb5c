-- What became of a batch, word by word: commas, positions, items.
use Rattle.ref_script.proofs.Common.{◌≡◌, ℕ, ◌+◌, ◌<◌, ◌≤◌, ◌==◌, true, false, Bool, List, [], ◌∷◌, ◌++◌, length}
use Rattle.ref_script.proofs.Common.{Option, Some, None, refl, sym, ap, ◌∙◌, arith}
use Rattle.ref_script.proofs.Common.{bytes_eq, bytes_eq-Decides, codes}
use Rattle.std.proofs.Common.{if◌then◌else◌}
use Rattle.std.specs.Option.{option_map}
use Rattle.std.proofs.lemmas.List.{length-append}
use Rattle.ref_base.specs.declared.out.Done.{Done}
use Rattle.ref_base.specs.declared.out.Done.TheVariants as done
use Rattle.ref_script.specs.ReplyReading.{comma_cut, batch_in, added_item, last_done, onto_done, IsItem, IsNoBatch}
use Rattle.ref_script.proofs.Common.{and_parts}
use Rattle.ref_script.specs.ReplyReading.{is_want_before_more, is_want_told, position_is, behind_refused}
use Rattle.ref_base.specs.declared.fault.Fault.TheVariants.{NoMemory}

-- a comma at the end of a word, or another byte
pub with_comma : (front : List ℕ) → comma_cut (front ++ 44 ∷ []) ≡ Some front
with_comma [] = refl
with_comma (b ∷ []) = refl
with_comma (b ∷ c ∷ bs) = ap (λ o. option_map (λ (front : List ℕ). b ∷ front) o) (with_comma (c ∷ bs))

with_other : (front : List ℕ) (last : ℕ) → (last == 44) ≡ false → comma_cut (front ++ last ∷ []) ≡ None
with_other [] last h = rw h refl
with_other (b ∷ []) last h = rw h refl
with_other (b ∷ c ∷ bs) last h =
    ap (λ o. option_map (λ (front : List ℕ). b ∷ front) o) (with_other (c ∷ bs) last h)

pub cut_comma : (word front : List ℕ) (last : ℕ) → word ≡ front ++ last ∷ [] → last ≡ 44
    → comma_cut word ≡ Some front
cut_comma word front last word_is comma = rw (word_is, comma) (with_comma front)

pub cut_other : (word front : List ℕ) (last : ℕ) → word ≡ front ++ last ∷ [] → (last == 44) ≡ false
    → comma_cut word ≡ None
cut_other word front last word_is other = rw word_is (with_other front last other)

-- ---- the first item

pub name_is : (name other : List ℕ) → bytes_eq name other ≡ true → name ≡ other
name_is name other h = (bytes_eq-Decides name other).0 h

pub item_already : (position : ℕ) (words behind rest : List (List ℕ)) (word next : List ℕ) → words ≡ word ∷ behind
    → behind ≡ next ∷ rest → bytes_eq word (codes "already,") ≡ true → IsItem position words done.Already behind true
item_already position words behind rest word next cut more is =
    rw (cut, more, name_is word (codes "already,") is) refl

pub item_closed : (position : ℕ) (words behind rest : List (List ℕ)) (word next : List ℕ) → words ≡ word ∷ behind
    → behind ≡ next ∷ rest → bytes_eq word (codes "closed,") ≡ true → IsItem position words done.Closed behind true
item_closed position words behind rest word next cut more is =
    rw (cut, more, name_is word (codes "closed,") is) refl

pub item_added : (position : ℕ) (words behind rest : List (List ℕ)) (word next : List ℕ) → words ≡ word ∷ behind
    → behind ≡ next ∷ rest → bytes_eq word (codes "added") ≡ true → position_is position next ≡ Some true
    → IsItem position words done.Added rest true
item_added position words behind rest word next cut more is at =
    rw (cut, more, name_is word (codes "added") is, at) refl

-- want of memory, as the last item and in front of others
pub want_parts : (next : List ℕ) (words : List (List ℕ)) → is_want_told next words ≡ true
    → (next ≡ codes "3") × (words ≡ codes "NoMemory" ∷ [])
want_parts next [] h = absurd cc
want_parts next (name ∷ []) h =
    let (three, named) = and_parts (bytes_eq next (codes "3")) (bytes_eq name (codes "NoMemory")) h in
    (name_is next (codes "3") three, ap (λ (w : List ℕ). w ∷ []) (name_is name (codes "NoMemory") named))
want_parts next (name ∷ other ∷ words) h = absurd cc

pub item_last_refused : (position : ℕ) (words behind rest left : List (List ℕ)) (word next : List ℕ)
    → words ≡ word ∷ behind → behind ≡ next ∷ rest → bytes_eq word (codes "refused") ≡ true
    → is_want_told next rest ≡ true → IsItem position words (done.Refused NoMemory) left false
item_last_refused position words behind rest left word next cut more is want =
    let (three, named) = want_parts next rest want in
    rw (cut, more, name_is word (codes "refused") is, three, named) refl

pub item_refused : (position : ℕ) (words behind rest left : List (List ℕ)) (word next name : List ℕ)
    → words ≡ word ∷ behind → behind ≡ next ∷ rest → rest ≡ name ∷ left → bytes_eq word (codes "refused") ≡ true
    → is_want_before_more next name ≡ true → IsItem position words (done.Refused NoMemory) left true
item_refused position words behind rest left word next name cut more yet is want =
    rw (cut, more, yet, name_is word (codes "refused") is, want) refl

-- neither is told behind `refused`
pub no_item_refused : (position : ℕ) (words behind rest : List (List ℕ)) (word next : List ℕ) → words ≡ word ∷ behind
    → behind ≡ next ∷ rest → rest ≡ [] → bytes_eq word (codes "refused") ≡ true → batch_in position words ≡ None
no_item_refused position words behind rest word next cut more none is =
    rw (cut, more, none, name_is word (codes "refused") is) refl

pub no_item_wanted : (position : ℕ) (words behind rest left : List (List ℕ)) (word next name : List ℕ)
    → words ≡ word ∷ behind → behind ≡ next ∷ rest → rest ≡ name ∷ left → bytes_eq word (codes "refused") ≡ true
    → is_want_before_more next name ≡ false → is_want_told next rest ≡ false → batch_in position words ≡ None
no_item_wanted position words behind rest left word next name cut more yet is before last =
    let told : is_want_told next (name ∷ left) ≡ false = ap (is_want_told next) (sym yet) ∙ last in
    rw (cut, more, yet, name_is word (codes "refused") is, before, told) refl

-- ---- the items so far

abbrev pub joined : List Done → Option (List Done) → Option (List Done)
joined ds None = None
joined ds (Some es) = Some (ds ++ es)

-- the items so far, and what is left with its next position
pub record HasItems (before : ℕ) (words : List (List ℕ)) (ds : List Done) (position : ℕ)
    (rest : List (List ℕ)) : Type 0 where
  pub parts : batch_in before words ≡ joined ds (batch_in position rest)
  pub few : length ds ≤ 32
  pub within : position ≤ before + length ds

-- ---- an item at least

onto_some : (d : Done) (o : Option (List Done)) (ds : List Done) → onto_done d o ≡ Some ds → 0 < length ds
onto_some d None ds h = absurd cc
onto_some d (Some es) ds h = let same : d ∷ es ≡ ds = cc in omega (arith, ap length same)

one_some : (d : Done) (ds : List Done) → Some (d ∷ []) ≡ Some ds → 0 < length ds
one_some d ds h = let same : d ∷ [] ≡ ds = cc in omega (arith, ap length same)

last_some : (d : Done) (words : List (List ℕ)) (ds : List Done) → last_done d words ≡ Some ds → 0 < length ds
last_some d [] ds h = one_some d ds h
last_some d (word ∷ words) ds h = absurd cc

added_some : (o : Option Bool) (words : List (List ℕ)) (more : Option (List Done)) (ds : List Done)
    → added_item o words more ≡ Some ds → 0 < length ds
added_some None words more ds h = absurd cc
added_some (Some true) words more ds h = onto_some done.Added more ds h
added_some (Some false) words more ds h = last_some done.Added words ds h

-- one of two, whichever the test says
either_way : (b : Bool) (o p : Option (List Done)) (ds : List Done) → (o ≡ Some ds → 0 < length ds)
    → (p ≡ Some ds → 0 < length ds) → (if b then o else p) ≡ Some ds → 0 < length ds
either_way true o p ds one other h = one h
either_way false o p ds one other h = other h

no_some : (ds : List Done) → None ≡ Some ds → 0 < length ds
no_some ds h = absurd cc

refused_some : (position : ℕ) (number : List ℕ) (words : List (List ℕ)) (ds : List Done)
    → behind_refused position number words ≡ Some ds → 0 < length ds
refused_some position number [] ds h = no_some ds h
refused_some position number (name ∷ words) ds h =
    either_way (is_want_before_more number name) _ _ ds (onto_some (done.Refused NoMemory) _ ds)
    (either_way (is_want_told number (name ∷ words)) _ _ ds (one_some (done.Refused NoMemory) ds) (no_some ds)) h

pub batch_some : (position : ℕ) (words : List (List ℕ)) (ds : List Done) → batch_in position words ≡ Some ds
    → 0 < length ds
batch_some position [] ds h = no_some ds h
batch_some position (word ∷ []) ds h =
    either_way (bytes_eq word (codes "already")) _ _ ds (one_some done.Already ds)
    (either_way (bytes_eq word (codes "closed")) _ _ ds (one_some done.Closed ds) (no_some ds)) h
batch_some position (word ∷ next ∷ words) ds h =
    either_way (bytes_eq word (codes "already,")) _ _ ds (onto_some done.Already _ ds)
    (either_way (bytes_eq word (codes "closed,")) _ _ ds (onto_some done.Closed _ ds)
    (either_way (bytes_eq word (codes "added")) _ _ ds (added_some (position_is position next) words _ ds)
    (either_way (bytes_eq word (codes "refused")) _ _ ds (refused_some position next words ds) (no_some ds)))) h

full : (ds es : List Done) (o : Option (List Done)) → ((fs : List Done) → o ≡ Some fs → 0 < length fs)
    → 32 ≤ length ds → joined ds o ≡ Some es → 32 < length es
full ds es None some many h = absurd cc
full ds es (Some fs) some many h =
    let same : ds ++ fs ≡ es = cc in omega (arith, ap length same, length-append ds fs, some fs refl, many)

pub items_full : (before : ℕ) (words : List (List ℕ)) (ds : List Done) (position : ℕ) (rest : List (List ℕ))
    → HasItems before words ds position rest → 32 ≤ length ds → IsNoBatch before words
items_full before words ds position rest h many es is =
    full ds es (batch_in position rest) (batch_some position rest) many (sym h.parts ∙ is)
