-- A reply of no batch is read back from its words, which are those of its text.
use Rattle.ref_script.proofs.Common.{◌≡◌, ℕ, ◌^◌, ◌<◌, true, false, List, [], ◌∷◌, ◌++◌, Option, Some, None}
use Rattle.ref_script.proofs.Common.{codes}
use Rattle.ref_script.proofs.Common.{refl, ap, arith, map, bytes_eq, bytes_eq-Decides, append-nil, list_all}
use Rattle.ref_script.proofs.Common.{length, queue, le-leb}
use Rattle.std.proofs.Common.{decimal, nat_lt}
use Rattle.std.proofs.lemmas.Bool.{ltb-true, and_parts}
use Rattle.std.specs.Option.{option_and_then, option_map}
use Rattle.ref_base.specs.Faults.{number_of, name_of}
use Rattle.ref_base.specs.Replies.{cause_words}
use Rattle.ref_base.specs.Texts.{word_text}
use Rattle.ref_base.specs.declared.cause.Cause.{Cause}
use Rattle.ref_base.specs.declared.cause.Cause.TheVariants.{Own, Cycle}
use Rattle.ref_base.specs.declared.fault.Fault.{Fault}
use Rattle.ref_base.specs.declared.fault.Fault.TheVariants.{BadConfig}
use Rattle.ref_base.specs.declared.reply.Reply.{Reply}
use Rattle.ref_base.specs.declared.reply.Reply.TheVariants as replies
use Rattle.ref_script.specs.Numerals.{is_numeral}
use Rattle.ref_script.specs.ReplyKinds.{AreNumbers, HasCauseIn, IsInRanges, is_of_one}
use Rattle.ref_script.specs.ReplyReading.{numbers_in_front, behind_numbers, notices_in, took_in, reply_counted}
use Rattle.ref_script.specs.ReplyReading.{Counted}
use Rattle.ref_script.specs.ReplyReading.{short_replies, all_faults, fault_numbered, fault_in, exact_below}
use Rattle.ref_script.specs.ReplyReading.{cause_in, notice_in, single_in, is_padded, if_so_named}
use Rattle.ref_script.proofs.ExactNumbers.{decimal_is_exact}
use Rattle.ref_script.proofs.ToldReplies.{told_words}

-- ---- numbers

short : (n : ℕ) → n < 2 ^ 32 → exact_below (2 ^ 32) (decimal n) ≡ Some n
short n below = decimal_is_exact (2 ^ 32) n below (omega arith)

long : (n : ℕ) → n < 2 ^ 64 → exact_below (2 ^ 64) (decimal n) ≡ Some n
long n below = decimal_is_exact (2 ^ 64) n below (omega arith)

-- ---- refusals

pub number_small : (f : Fault) → number_of f < 2 ^ 32
number_small BadConfig = omega arith
number_small fault = omega arith

fault_found : (f : Fault) → fault_numbered all_faults (number_of f) ≡ Some f
fault_found BadConfig = refl
fault_found fault = refl

same_name : (name : List ℕ) → bytes_eq name name ≡ true
same_name name = (bytes_eq-Decides name name).1 refl

refusal_by : (fs : List Fault) (name : List ℕ) (n : ℕ) (o : Option ℕ) (f : Fault) → o ≡ Some n
    → fault_numbered fs n ≡ Some f → bytes_eq name (name_of f) ≡ true
    → option_and_then (if_so_named name) (option_and_then (fault_numbered fs) o) ≡ Some f
refusal_by fs name n o f is found named = rw (is, found, named) refl

pub refusal_back : (f : Fault) → fault_in (decimal (number_of f) ∷ name_of f ∷ []) ≡ Some f
refusal_back f =
    refusal_by all_faults (name_of f) (number_of f) (exact_below (2 ^ 32) (decimal (number_of f))) f
    (short (number_of f) (number_small f)) (fault_found f) (same_name (name_of f))

-- ---- notices

cause_back : (cause : Cause) → HasCauseIn cause → cause_in (map (λ w. word_text w) (cause_words cause)) ≡ Some cause
cause_back Own h = refl
cause_back (Cycle c w) h = rw (long c h.0, short w h.1) refl

notice_back : (n q : ℕ) (cause : Cause) → n < 2 ^ 32 → q < 2 ^ 32 → HasCauseIn cause
    → notice_in (decimal n ∷ (113 ∷ decimal q) ∷ map (λ w. word_text w) (cause_words cause))
    ≡ Some (replies.Notice n q cause)
notice_back n q cause n_below q_below h = rw (short n n_below, short q q_below, cause_back cause h) refl

-- ---- lists of numbers

front_back : (ns : List ℕ) (words : List (List ℕ)) → list_all (λ n. nat_lt n (2 ^ 32)) ns ≡ true
    → numbers_in_front words ≡ [] → behind_numbers words ≡ words
    → (numbers_in_front (map (λ n. decimal n) ns ++ words) ≡ ns)
    × (behind_numbers (map (λ n. decimal n) ns ++ words) ≡ words)
front_back [] words all none same = (none, same)
front_back (n ∷ ns) words all none same =
    let (below, others) = and_parts (nat_lt n (2 ^ 32)) (list_all (λ m. nat_lt m (2 ^ 32)) ns) all in
    let (front, rest) = front_back ns words others none same in
    let is = short n (ltb-true n (2 ^ 32) below) in
    (rw is (ap (λ (t : List ℕ). n ∷ t) front), rw is rest)

-- a word that begins with the letter of a queue is no number
not_padded : (word : List ℕ) → is_padded (113 ∷ word) ≡ false
not_padded [] = refl
not_padded (b ∷ word) = refl

no_numeral : (word : List ℕ) → is_numeral (113 ∷ word) ≡ false
no_numeral word = grind arith

no_number : (word : List ℕ) → exact_below (2 ^ 32) (113 ∷ word) ≡ None
no_number word = rw (not_padded word, no_numeral word) refl

notices_back : (ns : List ℕ) (q c w : ℕ) → AreNumbers ns → q < 2 ^ 32 → HasCauseIn (Cycle c w)
    → notices_in (map (λ n. decimal n) ns ++ map (λ v. word_text v) (queue q ∷ cause_words (Cycle c w)))
    ≡ Some (replies.Notices ns q c w)
notices_back ns q c w numbers below h =
    let words : List (List ℕ) = map (λ v. word_text v) (queue q ∷ cause_words (Cycle c w)) in
    let (front, rest) =
    front_back ns words numbers.1 (rw (no_number (decimal q)) refl) (rw (no_number (decimal q)) refl) in
    rw (front, rest, le-leb (length ns) 32 numbers.0, short q below, long c h.0, short w h.1) refl

pub took_back : (ns : List ℕ) → AreNumbers ns → took_in (map (λ n. decimal n) ns) ≡ Some (replies.TookSome ns)
took_back ns numbers =
    let (front, rest) = front_back ns [] numbers.1 refl refl in
    rw (← append-nil (map (λ n. decimal n) ns)) (rw (front, rest, le-leb (length ns) 32 numbers.0) refl)

-- ---- any reply of no batch

-- a name that no row of a table has
pub none_counted : (cs : List Counted) (name : List ℕ) (o : Option ℕ) → ((n : ℕ) → reply_counted cs name n ≡ None)
    → option_and_then (reply_counted cs name) o ≡ None
none_counted cs name None none = refl
none_counted cs name (Some n) none = none n

pub single_back : (r : Reply) → IsInRanges r → is_of_one r ≡ true → single_in (told_words r) ≡ Some r
single_back (replies.Object n) h one = rw (short n h) refl
single_back (replies.Took n) h one = rw (short n h) refl
single_back (replies.Scanned n) h one = rw (short n h) refl
single_back (replies.Doomed n) h one = rw (short n h) refl
single_back (replies.Cleared n) h one = rw (short n h) refl
single_back (replies.Kept n) h one = rw (short n h) refl
single_back (replies.Skipped n) h one = rw (short n h) refl
single_back (replies.Swept n) h one = rw (short n h) refl
single_back (replies.Selected n) h one = rw (short n h) refl
single_back (replies.Moved n) h one = rw (short n h) refl
single_back (replies.Added n) h one =
    rw (none_counted short_replies (codes "added") (exact_below (2 ^ 32) (decimal n)) (λ m. refl), long n h) refl
single_back (replies.Cycle n) h one =
    rw (none_counted short_replies (codes "cycle") (exact_below (2 ^ 32) (decimal n)) (λ m. refl), long n h) refl
single_back (replies.Refers true) h one = refl
single_back (replies.Refers false) h one = refl
single_back (replies.Refused f) h one = ap (λ o. option_map (λ g. replies.Refused g) o) (refusal_back f)
single_back (replies.Notice n q cause) h one = notice_back n q cause h.0 h.1 h.2
single_back (replies.Notices ns q c w) h one = notices_back ns q c w h.0 h.1 h.2
single_back (replies.TookSome ns) h one = absurd cc
single_back (replies.Outs outs) h one = absurd cc
single_back reply h one = refl
