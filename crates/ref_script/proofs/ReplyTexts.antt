-- The words of a reply's text are those that it tells.
use Rattle.ref_script.proofs.Common.{◌≡◌, ℕ, ◌^◌, ◌<◌, true, false, List, [], ◌∷◌, ◌++◌, codes, refl, ap, ◌∙◌}
use Rattle.ref_script.proofs.Common.{arith, map}
use Rattle.ref_script.proofs.Common.{append-nil, append_assoc, list_all, Letters, Long, number, queue, words_of}
use Rattle.std.proofs.Common.{decimal, nat_lt}
use Rattle.std.proofs.lemmas.Bool.{ltb-true, and_parts}
use Rattle.ref_base.specs.Faults.{name_of, number_of}
use Rattle.ref_base.specs.Replies.{cause_words, reply_words, reply_text, spaced}
use Rattle.ref_base.specs.Texts.{word_text, text_of}
use Rattle.ref_base.specs.declared.cause.Cause.{Cause}
use Rattle.ref_base.specs.declared.cause.Cause.TheVariants.{Own, Cycle}
use Rattle.ref_base.specs.declared.fault.Fault.{Fault}
use Rattle.ref_base.specs.declared.fault.Fault.TheVariants.{BadConfig}
use Rattle.ref_base.specs.declared.reply.Reply.{Reply}
use Rattle.ref_base.specs.declared.reply.Reply.TheVariants as replies
use Rattle.ref_script.specs.ReplyKinds.{HasCauseIn, IsInRanges, is_of_one}
use Rattle.ref_script.specs.ReplyReading.{is_text_word}
use Rattle.ref_script.proofs.ReadBack.{number_small}
use Rattle.ref_script.proofs.ReplyWords.{decimal_word, decimal_no_space, text_words, word_alone, word_in_front}
use Rattle.ref_script.proofs.ToldReplies.{told_words}

fault_word : (f : Fault) → is_text_word (name_of f) ≡ true
fault_word BadConfig = refl
fault_word fault = refl

one_number : (name : List ℕ) (n : ℕ) → is_text_word name ≡ true → n < 2 ^ 32
    → words_of (text_of (Letters name ∷ number n ∷ [])) ≡ name ∷ decimal n ∷ []
one_number name n h small =
    text_words (Letters name ∷ number n ∷ []) (rw (h, decimal_word n (omega (arith, small))) refl)

pub one_long : (name : List ℕ) (n : ℕ) → is_text_word name ≡ true → n < 2 ^ 64
    → words_of (text_of (Letters name ∷ Long n ∷ [])) ≡ name ∷ decimal n ∷ []
one_long name n h small = text_words (Letters name ∷ Long n ∷ []) (rw (h, decimal_word n small) refl)

pub refused_words : (f : Fault) → words_of (reply_text (replies.Refused f)) ≡ told_words (replies.Refused f)
refused_words f =
    text_words (reply_words (replies.Refused f))
    (rw (decimal_word (number_of f) (omega (arith, number_small f)), fault_word f) refl)

-- a letter and a number
lettered : (letter n : ℕ) → is_text_word (letter ∷ []) ≡ true → n < 2 ^ 32 → is_text_word (letter ∷ decimal n) ≡ true
lettered letter n h small = rw (decimal_no_space n (omega (arith, small))) h

cause_are_words : (cause : Cause) → HasCauseIn cause
    → list_all (λ w. is_text_word (word_text w)) (cause_words cause) ≡ true
cause_are_words Own h = refl
cause_are_words (Cycle c w) h = rw (decimal_word c h.0, lettered 119 w refl h.1) refl

notice_words : (n q : ℕ) (cause : Cause) → n < 2 ^ 32 → q < 2 ^ 32 → HasCauseIn cause
    → words_of (reply_text (replies.Notice n q cause)) ≡ told_words (replies.Notice n q cause)
notice_words n q cause n_small q_small h =
    text_words (reply_words (replies.Notice n q cause))
    (rw (decimal_word n (omega (arith, n_small)), lettered 113 q refl q_small, cause_are_words cause h) refl)

-- numbers with a space before each
spaced_words : (w : List ℕ) (ns : List ℕ) → is_text_word w ≡ true → list_all (λ n. nat_lt n (2 ^ 32)) ns ≡ true
    → words_of (w ++ spaced ns) ≡ w ∷ map (λ n. decimal n) ns
spaced_words w [] h all = rw (append-nil w) (word_alone w h)
spaced_words w (n ∷ ns) h all =
    let (below, others) = and_parts (nat_lt n (2 ^ 32)) (list_all (λ m. nat_lt m (2 ^ 32)) ns) all in
    let small : n < 2 ^ 64 = omega (arith, ltb-true n (2 ^ 32) below) in
    word_in_front w (decimal n ++ spaced ns) h
    ∙ ap (λ (t : List (List ℕ)). w ∷ t) (spaced_words (decimal n) ns (decimal_word n small) others)

-- and a text behind them
spaced_on : (w : List ℕ) (ns t : List ℕ) → is_text_word w ≡ true → list_all (λ n. nat_lt n (2 ^ 32)) ns ≡ true
    → words_of (w ++ (spaced ns ++ 32 ∷ t)) ≡ w ∷ (map (λ n. decimal n) ns ++ words_of t)
spaced_on w [] t h all = word_in_front w t h
spaced_on w (n ∷ ns) t h all =
    let (below, others) = and_parts (nat_lt n (2 ^ 32)) (list_all (λ m. nat_lt m (2 ^ 32)) ns) all in
    let small : n < 2 ^ 64 = omega (arith, ltb-true n (2 ^ 32) below) in
    word_in_front w ((decimal n ++ spaced ns) ++ 32 ∷ t) h
    ∙ ap (λ (s : List ℕ). w ∷ words_of s) (append_assoc (decimal n) (spaced ns) (32 ∷ t))
    ∙ ap (λ (s : List (List ℕ)). w ∷ s) (spaced_on (decimal n) ns t (decimal_word n small) others)

notices_words : (ns : List ℕ) (q c w : ℕ) → list_all (λ n. nat_lt n (2 ^ 32)) ns ≡ true → q < 2 ^ 32
    → HasCauseIn (Cycle c w)
    → words_of (reply_text (replies.Notices ns q c w)) ≡ told_words (replies.Notices ns q c w)
notices_words ns q c w all q_small h =
    spaced_on (codes "notices") ns (text_of (queue q ∷ cause_words (Cycle c w))) refl all
    ∙ ap (λ (s : List (List ℕ)). codes "notices" ∷ (map (λ n. decimal n) ns ++ s))
    (text_words (queue q ∷ cause_words (Cycle c w))
    (rw (lettered 113 q refl q_small, cause_are_words (Cycle c w) h) refl))

pub took_words : (ns : List ℕ) → list_all (λ n. nat_lt n (2 ^ 32)) ns ≡ true
    → words_of (reply_text (replies.TookSome ns)) ≡ told_words (replies.TookSome ns)
took_words ns all = spaced_words (codes "took") ns refl all

pub text_told : (r : Reply) → IsInRanges r → is_of_one r ≡ true → words_of (reply_text r) ≡ told_words r
text_told (replies.Object n) h one = one_number (codes "object") n refl h
text_told (replies.Took n) h one = one_number (codes "took") n refl h
text_told (replies.Scanned n) h one = one_number (codes "scanned") n refl h
text_told (replies.Doomed n) h one = one_number (codes "doomed") n refl h
text_told (replies.Cleared n) h one = one_number (codes "cleared") n refl h
text_told (replies.Kept n) h one = one_number (codes "kept") n refl h
text_told (replies.Skipped n) h one = one_number (codes "skipped") n refl h
text_told (replies.Swept n) h one = one_number (codes "swept") n refl h
text_told (replies.Selected n) h one = one_number (codes "selected") n refl h
text_told (replies.Moved n) h one = one_number (codes "moved") n refl h
text_told (replies.Added n) h one = one_long (codes "added") n refl h
text_told (replies.Cycle n) h one = one_long (codes "cycle") n refl h
text_told (replies.Refers true) h one = refl
text_told (replies.Refers false) h one = refl
text_told (replies.Refused f) h one = refused_words f
text_told (replies.Notice n q cause) h one = notice_words n q cause h.0 h.1 h.2
text_told (replies.Notices ns q c w) h one = notices_words ns q c w h.0.1 h.1 h.2
text_told (replies.TookSome ns) h one = absurd cc
text_told (replies.Outs outs) h one = absurd cc
text_told reply h one = refl
