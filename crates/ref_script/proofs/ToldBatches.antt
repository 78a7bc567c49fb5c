-- The words of what became of a batch, item by item, and that it is read back from them.
use Rattle.ref_script.proofs.Common.{◌≡◌, ℕ, ◌+◌, ◌<◌, ◌==◌, ◌^◌, true, false, Bool, List, [], ◌∷◌, ◌++◌}
use Rattle.ref_script.proofs.Common.{length}
use Rattle.ref_script.proofs.Common.{Option, Some, None, inl, inr, refl, sym, ap, ◌∙◌, arith, append_assoc, codes}
use Rattle.ref_script.proofs.Common.{list_all, words_of}
use Rattle.ref_script.proofs.Common.{bytes_eq}
use Rattle.std.proofs.Common.{decimal, if◌then◌else◌, not}
use Rattle.std.specs.Char.{is_ascii_digit}
use Rattle.std.specs.Option.{option_map}
use Rattle.std.specs.List.{list_any}
use Rattle.std.proofs.lemmas.Bool.{eq-eqb, eqb-true, lt-ltb, and_parts}
use Rattle.std.proofs.lemmas.Fmt.{decimal_digit}
use Rattle.ref_base.specs.Faults.{name_of, number_of}
use Rattle.ref_base.specs.Outs.{is_added, out_of, outs_of}
use Rattle.ref_base.specs.Replies.{outs_text, out_words}
use Rattle.ref_base.specs.Texts.{text_of}
use Rattle.ref_base.specs.declared.fault.Fault.TheVariants.{NoMemory}
use Rattle.ref_base.specs.declared.out.Done.{Done}
use Rattle.ref_base.specs.declared.out.Done.TheVariants as done
use Rattle.ref_base.specs.declared.out.Out.{Out}
use Rattle.ref_base.specs.declared.out.Out.TheVariants as outs
use Rattle.ref_script.specs.ReplyKinds.{is_batch_told}
use Rattle.ref_script.specs.ReplyReading.{comma_cut, batch_in, added_item, onto_done, last_done, exact_below}
use Rattle.ref_script.specs.ReplyReading.{is_this_number, is_want_before_more, behind_refused}
use Rattle.ref_script.specs.ReplyReading.{position_is, position_cut, is_want_told, first_position, is_text_word}
use Rattle.ref_script.proofs.BatchWords.{item_already, item_closed, name_is, want_parts, with_comma}
use Rattle.ref_script.proofs.ExactNumbers.{decimal_digits, decimal_is_exact, exact_is_decimal}
use Rattle.ref_script.proofs.ToldReplies.{chosen, chosen_only, guarded, split}
use Rattle.ref_script.proofs.ReplyTexts.{one_long, refused_words}
use Rattle.ref_script.proofs.ReplyWords.{decimal_no_space, no_space_word, word_in_front}
use Rattle.std.proofs.lemmas.List.{length-append}

-- ---- the words

-- the position of the next item that was added
abbrev pub behind_item : ℕ → Done → ℕ
behind_item before d = if is_added d then before + 1 else before

-- the words of an item that is the last, and of one that isn't: a comma stands behind the last of these
abbrev pub item_words : ℕ → Done → List (List ℕ)
item_words before done.Added = codes "added" ∷ decimal before ∷ []
item_words before done.Already = codes "already" ∷ []
item_words before done.Closed = codes "closed" ∷ []
item_words before (done.Refused f) = codes "refused" ∷ decimal (number_of f) ∷ name_of f ∷ []

abbrev pub onto_words : ℕ → Done → List (List ℕ) → List (List ℕ)
onto_words before done.Added words = codes "added" ∷ (decimal before ++ 44 ∷ []) ∷ words
onto_words before done.Already words = codes "already," ∷ words
onto_words before done.Closed words = codes "closed," ∷ words
onto_words before (done.Refused f) words =
    codes "refused" ∷ decimal (number_of f) ∷ (name_of f ++ 44 ∷ []) ∷ words

abbrev pub told_batch : ℕ → List Done → List (List ℕ)
told_batch before [] = []
told_batch before (d ∷ []) = item_words before d
told_batch before (d ∷ e ∷ ds) = onto_words before d (told_batch (behind_item before d) (e ∷ ds))

-- ---- commas

no_comma : (w : List ℕ) → list_all is_ascii_digit w ≡ true → comma_cut w ≡ None
no_comma [] h = refl
no_comma (b ∷ []) h = grind arith
no_comma (b ∷ c ∷ bs) h = grind (arith, no_comma (c ∷ bs))

cut_is : (w front : List ℕ) → comma_cut w ≡ Some front → w ≡ front ++ 44 ∷ []
cut_is [] front h = absurd cc
cut_is (b ∷ []) front h = grind arith
cut_is (b ∷ c ∷ bs) front h = by (comma_cut (c ∷ bs)) refl h (λ f e. cut_is (c ∷ bs) f e)
  where
    by : (o : Option (List ℕ)) → comma_cut (c ∷ bs) ≡ o → option_map (λ (f : List ℕ). b ∷ f) o ≡ Some front
        → ((f : List ℕ) → comma_cut (c ∷ bs) ≡ Some f → (c ∷ bs) ≡ f ++ 44 ∷ []) → (b ∷ c ∷ bs) ≡ front ++ 44 ∷ []
    by None is e rest = absurd cc
    by (Some f) is e rest =
        let same : b ∷ f ≡ front = cc in
        let behind : (c ∷ bs) ≡ f ++ 44 ∷ [] = rest f is in
        ap (λ (t : List ℕ). b ∷ t) behind ∙ ap (λ (t : List ℕ). t ++ 44 ∷ []) same

-- ---- positions

position_told : (k before : ℕ) → before < 2 ^ 64 → k ≡ before → position_is k (decimal before) ≡ Some false
position_told k before small same =
    rw (
      no_comma (decimal before) (decimal_digits before small),
      decimal_is_exact (2 ^ 64) before small (omega arith),
      eq-eqb before k (sym same),
    ) refl

position_comma : (k before : ℕ) → before < 2 ^ 64 → k ≡ before
    → position_is k (decimal before ++ 44 ∷ []) ≡ Some true
position_comma k before small same =
    rw (with_comma (decimal before), decimal_is_exact (2 ^ 64) before small (omega arith), eq-eqb before k (sym same))
    refl

-- ---- a batch is read back

pub told_cons : (before : ℕ) (e : Done) (ds : List Done)
    → (w : List ℕ) × (ws : List (List ℕ)) × (told_batch before (e ∷ ds) ≡ w ∷ ws)
told_cons before done.Added [] = (_, _, refl)
told_cons before done.Already [] = (_, _, refl)
told_cons before done.Closed [] = (_, _, refl)
told_cons before (done.Refused f) [] = (_, _, refl)
told_cons before done.Added (d ∷ ds) = (_, _, refl)
told_cons before done.Already (d ∷ ds) = (_, _, refl)
told_cons before done.Closed (d ∷ ds) = (_, _, refl)
told_cons before (done.Refused f) (d ∷ ds) = (_, _, refl)

pub batch_back : (before k : ℕ) (ds : List Done) → is_batch_told ds ≡ true → before + length ds < 2 ^ 64
    → (list_any is_added ds ≡ true → k ≡ before) → batch_in k (told_batch before ds) ≡ Some ds
batch_back before k [] h small same = absurd cc
batch_back before k (done.Added ∷ []) h small same =
    rw (position_told k before (omega (arith, small)) (same refl)) refl
batch_back before k (done.Already ∷ []) h small same = refl
batch_back before k (done.Closed ∷ []) h small same = refl
batch_back before k (done.Refused NoMemory ∷ []) h small same = rw (decimal_digit 3 (omega arith)) refl
batch_back before k (done.Refused fault ∷ []) h small same = absurd cc
batch_back before k (done.Added ∷ e ∷ ds) h small same =
    rw (position_comma k before (omega (arith, small)) (same refl))
    (ap (onto_done done.Added)
    (batch_back (before + 1) (k + 1) (e ∷ ds) h (omega (arith, small)) (λ any. omega (arith, same refl))))
batch_back before k (done.Already ∷ e ∷ ds) h small same =
    let (w, ws, cons) = told_cons before e ds in
    item_already k _ (told_batch before (e ∷ ds)) ws (codes "already,") w refl cons refl
    ∙ ap (onto_done done.Already) (batch_back before k (e ∷ ds) h (omega (arith, small)) same)
batch_back before k (done.Closed ∷ e ∷ ds) h small same =
    let (w, ws, cons) = told_cons before e ds in
    item_closed k _ (told_batch before (e ∷ ds)) ws (codes "closed,") w refl cons refl
    ∙ ap (onto_done done.Closed) (batch_back before k (e ∷ ds) h (omega (arith, small)) same)
batch_back before k (done.Refused NoMemory ∷ e ∷ ds) h small same =
    rw (decimal_digit 3 (omega arith))
    (ap (onto_done (done.Refused NoMemory)) (batch_back before k (e ∷ ds) h (omega (arith, small)) same))
batch_back before k (done.Refused fault ∷ e ∷ ds) h small same = absurd cc

-- the first position is read back too
pub position_back : (before : ℕ) (ds : List Done) → is_batch_told ds ≡ true → before < 2 ^ 63
    → list_any is_added ds ≡ true → first_position (told_batch before ds) ≡ before
position_back before [] h half any = absurd cc
position_back before (done.Added ∷ []) h half any =
    rw (
      no_comma (decimal before) (decimal_digits before (omega (arith, half))),
      decimal_is_exact (2 ^ 64) before (omega (arith, half)) (omega arith),
      lt-ltb before (2 ^ 63) half,
    ) refl
position_back before (done.Already ∷ []) h half any = absurd cc
position_back before (done.Closed ∷ []) h half any = absurd cc
position_back before (done.Refused f ∷ []) h half any = absurd cc
position_back before (done.Added ∷ e ∷ ds) h half any =
    rw (
      with_comma (decimal before),
      decimal_is_exact (2 ^ 64) before (omega (arith, half)) (omega arith),
      lt-ltb before (2 ^ 63) half,
    ) refl
position_back before (done.Already ∷ e ∷ ds) h half any = position_back before (e ∷ ds) h half any
position_back before (done.Closed ∷ e ∷ ds) h half any = position_back before (e ∷ ds) h half any
position_back before (done.Refused NoMemory ∷ e ∷ ds) h half any =
    rw (decimal_digit 3 (omega arith)) (position_back before (e ∷ ds) h half any)
position_back before (done.Refused fault ∷ e ∷ ds) h half any = absurd cc

-- ---- what is read is told

abbrev Reads : ℕ → List (List ℕ) → List Done → Type 0
Reads k words ds = (told_batch k ds ≡ words) × (is_batch_told ds ≡ true)

onto_parts : (d : Done) (o : Option (List Done)) (ds : List Done) → onto_done d o ≡ Some ds
    → (es : List Done) × (o ≡ Some es) × (d ∷ es ≡ ds)
onto_parts d None ds h = absurd cc
onto_parts d (Some es) ds h = (es, refl, cc)

already_more : (k : ℕ) (es : List Done) (words : List (List ℕ)) → Reads k words es
    → Reads k (codes "already," ∷ words) (done.Already ∷ es)
already_more k [] words h = let none = h.1 in absurd cc
already_more k (e ∷ es) words h = (ap (λ (t : List (List ℕ)). codes "already," ∷ t) h.0, h.1)

closed_more : (k : ℕ) (es : List Done) (words : List (List ℕ)) → Reads k words es
    → Reads k (codes "closed," ∷ words) (done.Closed ∷ es)
closed_more k [] words h = let none = h.1 in absurd cc
closed_more k (e ∷ es) words h = (ap (λ (t : List (List ℕ)). codes "closed," ∷ t) h.0, h.1)

refused_more : (k : ℕ) (es : List Done) (words : List (List ℕ)) → Reads k words es
    → Reads k (codes "refused" ∷ codes "3" ∷ codes "NoMemory," ∷ words) (done.Refused NoMemory ∷ es)
refused_more k [] words h = let none = h.1 in absurd cc
refused_more k (e ∷ es) words h = (
  rw (decimal_digit 3 (omega arith))
      (ap (λ (t : List (List ℕ)). codes "refused" ∷ codes "3" ∷ codes "NoMemory," ∷ t) h.0),
  h.1,
)

added_more : (k : ℕ) (es : List Done) (words : List (List ℕ)) → Reads (k + 1) words es
    → Reads k (codes "added" ∷ (decimal k ++ 44 ∷ []) ∷ words) (done.Added ∷ es)
added_more k [] words h = let none = h.1 in absurd cc
added_more k (e ∷ es) words h = (ap (λ (t : List (List ℕ)). codes "added" ∷ (decimal k ++ 44 ∷ []) ∷ t) h.0, h.1)

number_parts : (k : ℕ) (o : Option ℕ) → is_this_number k o ≡ true → o ≡ Some k
number_parts k None h = absurd cc
number_parts k (Some m) h = ap (λ n. Some n) (eqb-true m k h)

abbrev IsPosition : ℕ → List ℕ → Bool → Type 0
IsPosition k word true = word ≡ decimal k ++ 44 ∷ []
IsPosition k word false = word ≡ decimal k

position_parts : (k : ℕ) (word : List ℕ) (b : Bool) → position_is k word ≡ Some b → IsPosition k word b
position_parts k word b h = by (comma_cut word) refl b h
  where
    exactly : (w : List ℕ) → is_this_number k (exact_below (2 ^ 64) w) ≡ true → w ≡ decimal k
    exactly w is =
        (exact_is_decimal (2 ^ 64) w k (omega arith) (number_parts k (exact_below (2 ^ 64) w) is)).0

    by : (o : Option (List ℕ)) → comma_cut word ≡ o → (c : Bool) → position_cut k o word ≡ Some c
        → IsPosition k word c
    by None is true e =
        let (at, differ) = chosen_only (is_this_number k (exact_below (2 ^ 64) word)) false true e in absurd cc
    by None is false e =
        exactly word (chosen_only (is_this_number k (exact_below (2 ^ 64) word)) false false e).0
    by (Some front) is true e =
        cut_is word front is
        ∙ ap (λ (w : List ℕ). w ++ 44 ∷ [])
        (exactly front (chosen_only (is_this_number k (exact_below (2 ^ 64) front)) true true e).0)
    by (Some front) is false e =
        let (at, differ) = chosen_only (is_this_number k (exact_below (2 ^ 64) front)) true false e in absurd cc

before_more_parts : (number name : List ℕ) → is_want_before_more number name ≡ true
    → (number ≡ codes "3") × (name ≡ codes "NoMemory,")
before_more_parts number name h =
    let (three, named) = and_parts (bytes_eq number (codes "3")) (bytes_eq name (codes "NoMemory,")) h in
    (name_is number (codes "3") three, name_is name (codes "NoMemory,") named)

want_reads : (k : ℕ) → Reads k (codes "refused" ∷ codes "3" ∷ codes "NoMemory" ∷ []) (done.Refused NoMemory ∷ [])
want_reads k = (rw (decimal_digit 3 (omega arith)) refl, refl)

last_parts : (d : Done) (words : List (List ℕ)) (ds : List Done) → last_done d words ≡ Some ds
    → (words ≡ []) × (d ∷ [] ≡ ds)
last_parts d [] ds h = (refl, cc)
last_parts d (word ∷ words) ds h = absurd cc

added_reads : (k : ℕ) (next : List ℕ) (words : List (List ℕ)) (more : Option (List Done)) (ds : List Done)
    → ((es : List Done) → more ≡ Some es → Reads (k + 1) words es)
    → added_item (position_is k next) words more ≡ Some ds → Reads k (codes "added" ∷ next ∷ words) ds
added_reads k next words more ds rest h = by (position_is k next) refl h
  where
    by : (o : Option Bool) → position_is k next ≡ o → added_item o words more ≡ Some ds
        → Reads k (codes "added" ∷ next ∷ words) ds
    by None is e = absurd cc
    by (Some true) is e =
        let (es, more_is, same) = onto_parts done.Added more ds e in
        rw (position_parts k next true is, ← same) (added_more k es words (rest es more_is))
    by (Some false) is e =
        let (none, same) = last_parts done.Added words ds e in
        rw (position_parts k next false is, none, ← same) (refl, refl)

mutual
  pub batch_read : (k : ℕ) (words : List (List ℕ)) (ds : List Done) → batch_in k words ≡ Some ds → Reads k words ds
  batch_read k [] ds h = absurd cc
  batch_read k (word ∷ []) ds h =
      elim (chosen (bytes_eq word (codes "already")) (done.Already ∷ []) ds _ h) [
        | inl is ↦ rw (name_is word (codes "already") is.0, ← is.1) (refl, refl)
        | inr other ↦
            let (is, same) = chosen_only (bytes_eq word (codes "closed")) (done.Closed ∷ []) ds other in
            rw (name_is word (codes "closed") is, ← same) (refl, refl)
      ]
  batch_read k (word ∷ next ∷ words) ds h =
      elim (split (bytes_eq word (codes "already,")) (onto_done done.Already (batch_in k (next ∷ words))) _ ds h) [
        | inl is ↦
            let (es, more_is, same) = onto_parts done.Already (batch_in k (next ∷ words)) ds is.1 in
            rw (name_is word (codes "already,") is.0, ← same)
            (already_more k es (next ∷ words) (batch_read k (next ∷ words) es more_is))
        | inr other ↦
            elim (split (bytes_eq word (codes "closed,")) (onto_done done.Closed (batch_in k (next ∷ words)))
            _ ds other) [
              | inl is ↦
                  let (es, more_is, same) = onto_parts done.Closed (batch_in k (next ∷ words)) ds is.1 in
                  rw (name_is word (codes "closed,") is.0, ← same)
                  (closed_more k es (next ∷ words) (batch_read k (next ∷ words) es more_is))
              | inr another ↦
                  elim (split (bytes_eq word (codes "added"))
                  (added_item (position_is k next) words (batch_in (k + 1) words)) _ ds another) [
                    | inl is ↦
                        rw (name_is word (codes "added") is.0)
                        (added_reads k next words (batch_in (k + 1) words) ds
                        (λ es e. batch_read (k + 1) words es e) is.1)
                    | inr refused ↦
                        let (is, want) =
                        guarded (bytes_eq word (codes "refused")) (behind_refused k next words) ds refused in
                        rw (name_is word (codes "refused") is) (refused_read k next words ds want)
                  ]
            ]
      ]

  refused_read : (k : ℕ) (number : List ℕ) (words : List (List ℕ)) (ds : List Done)
      → behind_refused k number words ≡ Some ds → Reads k (codes "refused" ∷ number ∷ words) ds
  refused_read k number [] ds h = absurd cc
  refused_read k number (name ∷ words) ds h =
      elim (split (is_want_before_more number name) (onto_done (done.Refused NoMemory) (batch_in k words)) _ ds h) [
        | inl is ↦
            let (es, more_is, same) = onto_parts (done.Refused NoMemory) (batch_in k words) ds is.1 in
            let (three, named) = before_more_parts number name is.0 in
            rw (three, named, ← same) (refused_more k es words (batch_read k words es more_is))
        | inr last ↦
            let (want, same) =
            chosen_only (is_want_told number (name ∷ words)) (done.Refused NoMemory ∷ []) ds last in
            let (three, named) = want_parts number (name ∷ words) want in
            rw (three, named, ← same) (want_reads k)
      ]

-- ---- the words are those of the text

no_space_comma : (w : List ℕ) → list_all (λ c. not (c == 32)) w ≡ true
    → list_all (λ c. not (c == 32)) (w ++ 44 ∷ []) ≡ true
no_space_comma [] h = refl
no_space_comma (b ∷ w) h =
    let (here, behind) = and_parts (not (b == 32)) (list_all (λ c. not (c == 32)) w) h in
    rw (here) (no_space_comma w behind)

comma_word : (n : ℕ) → n < 2 ^ 64 → is_text_word (decimal n ++ 44 ∷ []) ≡ true
comma_word n small =
    no_space_word (decimal n ++ 44 ∷ []) (omega (arith, length-append (decimal n) (44 ∷ [])))
    (no_space_comma (decimal n) (decimal_no_space n small))

-- an item with more behind it
added_step : (w rest : List ℕ) → (codes "added" ++ 32 ∷ w) ++ (codes ", " ++ rest)
    ≡ codes "added" ++ 32 ∷ (w ++ 44 ∷ 32 ∷ rest)
added_step w rest = refl

already_step : (rest : List ℕ) → codes "already" ++ (codes ", " ++ rest) ≡ codes "already," ++ 32 ∷ rest
already_step rest = refl

closed_step : (rest : List ℕ) → codes "closed" ++ (codes ", " ++ rest) ≡ codes "closed," ++ 32 ∷ rest
closed_step rest = refl

refused_step : (rest : List ℕ) → text_of (out_words (outs.Refused NoMemory)) ++ (codes ", " ++ rest)
    ≡ codes "refused" ++ 32 ∷ (codes "3" ++ 32 ∷ (codes "NoMemory," ++ 32 ∷ rest))
refused_step rest = rw (decimal_digit 3 (omega arith)) refl

outs_step : (o p : Out) (os : List Out)
    → outs_text (o ∷ p ∷ os) ≡ text_of (out_words o) ++ (codes ", " ++ outs_text (p ∷ os))
outs_step o p os = append_assoc (text_of (out_words o)) (codes ", ") (outs_text (p ∷ os))

pub batch_text : (before : ℕ) (ds : List Done) → is_batch_told ds ≡ true → before + length ds < 2 ^ 64
    → words_of (outs_text (outs_of before ds)) ≡ told_batch before ds
batch_text before [] h small = absurd cc
batch_text before (done.Added ∷ []) h small = one_long (codes "added") before refl (omega (arith, small))
batch_text before (done.Already ∷ []) h small = refl
batch_text before (done.Closed ∷ []) h small = refl
batch_text before (done.Refused f ∷ []) h small = refused_words f
batch_text before (done.Added ∷ e ∷ ds) h small =
    let rest : List ℕ = outs_text (outs_of (before + 1) (e ∷ ds)) in
    ap words_of (outs_step (outs.Added before) (out_of (before + 1) e) (outs_of (behind_item (before + 1) e) ds)
    ∙ added_step (decimal before) rest)
    ∙ word_in_front (codes "added") (decimal before ++ 44 ∷ 32 ∷ rest) refl
    ∙ ap (λ (s : List ℕ). codes "added" ∷ words_of s) (sym (append_assoc (decimal before) (44 ∷ []) (32 ∷ rest)))
    ∙ ap (λ (s : List (List ℕ)). codes "added" ∷ s)
    (word_in_front (decimal before ++ 44 ∷ []) rest (comma_word before (omega (arith, small))))
    ∙ ap (λ (s : List (List ℕ)). codes "added" ∷ (decimal before ++ 44 ∷ []) ∷ s)
    (batch_text (before + 1) (e ∷ ds) h (omega (arith, small)))
batch_text before (done.Already ∷ e ∷ ds) h small =
    ap words_of (outs_step outs.Already (out_of before e) (outs_of (behind_item before e) ds)
    ∙ already_step (outs_text (outs_of before (e ∷ ds))))
    ∙ word_in_front (codes "already,") (outs_text (outs_of before (e ∷ ds))) refl
    ∙ ap (λ (s : List (List ℕ)). codes "already," ∷ s) (batch_text before (e ∷ ds) h (omega (arith, small)))
batch_text before (done.Closed ∷ e ∷ ds) h small =
    ap words_of (outs_step outs.Closed (out_of before e) (outs_of (behind_item before e) ds)
    ∙ closed_step (outs_text (outs_of before (e ∷ ds))))
    ∙ word_in_front (codes "closed,") (outs_text (outs_of before (e ∷ ds))) refl
    ∙ ap (λ (s : List (List ℕ)). codes "closed," ∷ s) (batch_text before (e ∷ ds) h (omega (arith, small)))
batch_text before (done.Refused NoMemory ∷ e ∷ ds) h small =
    let rest : List ℕ = outs_text (outs_of before (e ∷ ds)) in
    ap words_of (outs_step (outs.Refused NoMemory) (out_of before e) (outs_of (behind_item before e) ds)
    ∙ refused_step rest)
    ∙ word_in_front (codes "refused") (codes "3" ++ 32 ∷ (codes "NoMemory," ++ 32 ∷ rest)) refl
    ∙ ap (λ (s : List (List ℕ)). codes "refused" ∷ s)
    (word_in_front (codes "3") (codes "NoMemory," ++ 32 ∷ rest) refl)
    ∙ ap (λ (s : List (List ℕ)). codes "refused" ∷ codes "3" ∷ s) (word_in_front (codes "NoMemory,") rest refl)
    ∙ ap (λ (s : List (List ℕ)). codes "refused" ∷ codes "3" ∷ codes "NoMemory," ∷ s)
    (batch_text before (e ∷ ds) h (omega (arith, small)))
    ∙ ap (λ (n : List ℕ). codes "refused" ∷ n ∷ codes "NoMemory," ∷ told_batch before (e ∷ ds))
    (sym (decimal_digit 3 (omega arith)))
batch_text before (done.Refused fault ∷ e ∷ ds) h small = absurd cc
