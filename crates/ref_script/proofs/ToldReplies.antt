-- What the words of a reply of no batch tell, and that they are the words of its text.
use Rattle.ref_script.proofs.Common.{◌≡◌, ℕ, ◌^◌, ◌<◌, ◌≤◌, true, false, List, [], ◌∷◌, ◌++◌, Option, Some, None}
use Rattle.ref_script.proofs.Common.{codes}
use Rattle.ref_script.proofs.Common.{refl, sym, ap, ◌∙◌, arith, inl, inr, map, bytes_eq, bytes_eq-Decides}
use Rattle.ref_script.proofs.Common.{append-nil, Bool, list_all, length, queue}
use Rattle.ref_script.proofs.Common.{bytes_eq}
use Rattle.std.proofs.Common.{decimal, if◌then◌else◌, ◌==◌, ◌⊎◌, nat_lt, nat_le, is_some}
use Rattle.std.proofs.lemmas.Bool.{eqb-true, leb-true, lt-ltb}
use Rattle.std.specs.Option.{option_and_then, option_map}
use Rattle.ref_base.specs.Faults.{number_of, name_of}
use Rattle.ref_base.specs.Replies.{cause_words, reply_words}
use Rattle.ref_base.specs.Texts.{word_text}
use Rattle.ref_base.specs.declared.cause.Cause.{Cause}
use Rattle.ref_base.specs.declared.cause.Cause.TheVariants.{Own, Cycle}
use Rattle.ref_base.specs.declared.fault.Fault.{Fault}
use Rattle.ref_base.specs.declared.reply.Reply.{Reply}
use Rattle.ref_base.specs.declared.reply.Reply.TheVariants as replies
use Rattle.ref_script.specs.ReplyKinds.{AreNumbers, HasCauseIn, IsInRanges, is_of_one}
use Rattle.ref_script.specs.ReplyReading.{numbers_in_front, behind_numbers, onto_numbers, notices_by, notices_behind}
use Rattle.ref_script.specs.ReplyReading.{notices_in, took_by, took_in}
use Rattle.ref_script.specs.ReplyReading.{Named, Counted, reply_named, reply_counted, bare_replies, short_replies}
use Rattle.ref_script.specs.ReplyReading.{long_replies, fault_numbered, all_faults, fault_in, exact_below}
use Rattle.ref_script.specs.ReplyReading.{cycle_by, notice_by, exact_behind, if_so_named, or_else, cause_in}
use Rattle.ref_script.specs.ReplyReading.{notice_in, plain_in, single_in}
use Rattle.ref_script.proofs.ExactNumbers.{exact_is_decimal}

-- the words of a reply, as its text has them
abbrev pub told_words : Reply → List (List ℕ)
told_words (replies.Notices ns q cycle k) =
    codes "notices" ∷ (map (λ n. decimal n) ns ++ map (λ w. word_text w) (queue q ∷ cause_words (Cycle cycle k)))
told_words (replies.TookSome ns) = codes "took" ∷ map (λ n. decimal n) ns
told_words (replies.Outs outs) = []
told_words reply = map (λ w. word_text w) (reply_words reply)

-- the words tell a reply of no batch
pub record Tells (reply : Reply) (words : List (List ℕ)) : Type 0 where
  pub words_are : told_words reply ≡ words
  pub ranges : IsInRanges reply
  pub of_one : is_of_one reply ≡ true

-- ---- what is read is told

-- a test in front of an answer
pub chosen : {X : Type 0} (b : Bool) (x r : X) (o : Option X) → (if b then Some x else o) ≡ Some r
    → ((b ≡ true) × (x ≡ r)) ⊎ (o ≡ Some r)
chosen true x r o h = inl (refl, cc)
chosen false x r o h = inr h

pub chosen_only : {X : Type 0} (b : Bool) (x r : X) → (if b then Some x else None) ≡ Some r → (b ≡ true) × (x ≡ r)
chosen_only true x r h = (refl, cc)
chosen_only false x r h = absurd cc

pub guarded : {X : Type 0} (b : Bool) (o : Option X) (r : X) → (if b then o else None) ≡ Some r
    → (b ≡ true) × (o ≡ Some r)
guarded true o r h = (refl, h)
guarded false o r h = absurd cc

pub split : {X : Type 0} (b : Bool) (o p : Option X) (r : X) → (if b then o else p) ≡ Some r
    → ((b ≡ true) × (o ≡ Some r)) ⊎ (p ≡ Some r)
split true o p r h = inl (refl, h)
split false o p r h = inr h

-- words that are the same one by one
pub two : (a b : List ℕ) (c d : List (List ℕ)) → a ≡ b → c ≡ d → (a ∷ c) ≡ (b ∷ d)
two a b c d h k = cc

pub three : (a b c d e f : List ℕ) → a ≡ b → c ≡ d → e ≡ f → (a ∷ c ∷ e ∷ []) ≡ (b ∷ d ∷ f ∷ [])
three a b c d e f h k l = cc

two_and : (name a b c d : List ℕ) (e f : List (List ℕ)) → a ≡ b → c ≡ d → e ≡ f
    → (name ∷ a ∷ c ∷ e) ≡ (name ∷ b ∷ d ∷ f)
two_and name a b c d e f h k l = cc

then_some : {X Y : Type 0} (f : X → Option Y) (o : Option X) (r : Y) → option_and_then f o ≡ Some r
    → (x : X) × (o ≡ Some x) × (f x ≡ Some r)
then_some f None r h = absurd cc
then_some f (Some x) r h = (x, refl, h)

pub name_is : (name other : List ℕ) → bytes_eq name other ≡ true → name ≡ other
name_is name other h = (bytes_eq-Decides name other).0 h

-- a table of names
abbrev AllTell : List Named → Type 0
AllTell [] = Unit {0}
AllTell (n ∷ ns) = Tells n.reply (n.name ∷ []) × AllTell ns

named_tells : (ns : List Named) (name : List ℕ) (r : Reply) → AllTell ns → reply_named ns name ≡ Some r
    → Tells r (name ∷ [])
named_tells [] name r all h = absurd cc
named_tells (n ∷ ns) name r all h =
    elim (chosen (bytes_eq name n.name) n.reply r (reply_named ns name) h) [
      | inl is ↦ rw (name_is name n.name is.0, ← is.1) all.0
      | inr isnt ↦ named_tells ns name r all.1 isnt
    ]

-- a table of names with numbers
abbrev AllCount : ℕ → List Counted → Type 0
AllCount limit [] = Unit {0}
AllCount limit (c ∷ cs) =
    ((n : ℕ) → n < limit → Tells (c.reply n) (c.name ∷ decimal n ∷ [])) × AllCount limit cs

counted_tells : (limit : ℕ) (cs : List Counted) (name : List ℕ) (n : ℕ) (r : Reply) → AllCount limit cs → n < limit
    → reply_counted cs name n ≡ Some r → Tells r (name ∷ decimal n ∷ [])
counted_tells limit [] name n r all below h = absurd cc
counted_tells limit (c ∷ cs) name n r all below h =
    elim (chosen (bytes_eq name c.name) (c.reply n) r (reply_counted cs name n) h) [
      | inl is ↦ rw (name_is name c.name is.0, ← is.1) (all.0 n below)
      | inr isnt ↦ counted_tells limit cs name n r all.1 below isnt
    ]

tells : {reply : Reply} {words : List (List ℕ)} → told_words reply ≡ words → IsInRanges reply
    → is_of_one reply ≡ true → Tells reply words
tells words ranges one = record { words_are = words; ranges = ranges; of_one = one }

bare_tell : AllTell bare_replies
bare_tell = (
  tells refl tt refl,
  (
    tells refl tt refl,
    (
      tells refl tt refl,
      (
        tells refl tt refl,
        (tells refl tt refl, (tells refl tt refl, (tells refl tt refl, (tells refl tt refl, tt)))),
      ),
    ),
  ),
)

short_tell : AllCount (2 ^ 32) short_replies
short_tell = (
  λ n h. tells refl h refl,
  (
    λ n h. tells refl h refl,
    (
      λ n h. tells refl h refl,
      (
        λ n h. tells refl h refl,
        (
          λ n h. tells refl h refl,
          (
            λ n h. tells refl h refl,
            (
              λ n h. tells refl h refl,
              (λ n h. tells refl h refl, (λ n h. tells refl h refl, (λ n h. tells refl h refl, tt))),
            ),
          ),
        ),
      ),
    ),
  ),
)

long_tell : AllCount (2 ^ 64) long_replies
long_tell = (λ n h. tells refl h refl, (λ n h. tells refl h refl, tt))

-- a name and a number
counted_read : (limit : ℕ) (cs : List Counted) (name word : List ℕ) (r : Reply) → AllCount limit cs → limit ≤ 2 ^ 64
    → option_and_then (reply_counted cs name) (exact_below limit word) ≡ Some r → Tells r (name ∷ word ∷ [])
counted_read limit cs name word r all few h =
    let (n, is, told) = then_some (reply_counted cs name) (exact_below limit word) r h in
    let (word_is, below) = exact_is_decimal limit word n few is in
    rw word_is (counted_tells limit cs name n r all below told)

either : (o p : Option Reply) (r : Reply) → or_else o p ≡ Some r → (o ≡ Some r) ⊎ (p ≡ Some r)
either (Some q) p r h = inl h
either None p r h = inr h

pub plain_read : (name : List ℕ) (words : List (List ℕ)) (r : Reply) → plain_in name words ≡ Some r
    → Tells r (name ∷ words)
plain_read name [] r h = named_tells bare_replies name r bare_tell h
plain_read name (word ∷ []) r h =
    elim (either (option_and_then (reply_counted short_replies name) (exact_below (2 ^ 32) word))
    (option_and_then (reply_counted long_replies name) (exact_below (2 ^ 64) word)) r h) [
      | inl short ↦ counted_read (2 ^ 32) short_replies name word r short_tell (omega arith) short
      | inr long ↦ counted_read (2 ^ 64) long_replies name word r long_tell (omega arith) long
    ]
plain_read name (word ∷ other ∷ words) r h = absurd cc

-- a refusal
fault_is : (fs : List Fault) (n : ℕ) (f : Fault) → fault_numbered fs n ≡ Some f → number_of f ≡ n
fault_is [] n f h = absurd cc
fault_is (g ∷ fs) n f h =
    elim (chosen (number_of g == n) g f (fault_numbered fs n) h) [
      | inl is ↦ ap number_of (sym is.1) ∙ eqb-true _ _ is.0
      | inr isnt ↦ fault_is fs n f isnt
    ]

pub refusal_read : (words : List (List ℕ)) (f : Fault) → fault_in words ≡ Some f
    → words ≡ decimal (number_of f) ∷ name_of f ∷ []
refusal_read [] f h = absurd cc
refusal_read (k ∷ []) f h = absurd cc
refusal_read (k ∷ name ∷ []) f h =
    let (g, found, so_named) =
    then_some (if_so_named name) (option_and_then (fault_numbered all_faults) (exact_below (2 ^ 32) k)) f h in
    let (n, is, numbered) = then_some (fault_numbered all_faults) (exact_below (2 ^ 32) k) g found in
    let (named, same) = chosen_only (bytes_eq name (name_of g)) g f so_named in
    let number_is : k ≡ decimal n = (exact_is_decimal (2 ^ 32) k n (omega arith) is).0 in
    let fault_has : number_of g ≡ n = fault_is all_faults n g numbered in
    let named_is : name ≡ name_of g = name_is name (name_of g) named in
    cc
refusal_read (k ∷ name ∷ other ∷ words) f h = absurd cc

-- a letter and a number
behind_read : (letter : ℕ) (word : List ℕ) (n : ℕ) → exact_behind letter word ≡ Some n
    → (word ≡ letter ∷ decimal n) × (n < 2 ^ 32)
behind_read letter [] n h = absurd cc
behind_read letter (b ∷ word) n h =
    let (same, exact) = guarded (b == letter) (exact_below (2 ^ 32) word) n h in
    let (word_is, below) = exact_is_decimal (2 ^ 32) word n (omega arith) exact in
    let letter_is : b ≡ letter = eqb-true b letter same in
    (cc, below)

-- why there is a notice
cycle_read : (o p : Option ℕ) (cause : Cause) → cycle_by o p ≡ Some cause
    → (c : ℕ) × (w : ℕ) × (o ≡ Some c) × (p ≡ Some w) × (Cycle c w ≡ cause)
cycle_read None p cause h = absurd cc
cycle_read (Some c) None cause h = absurd cc
cycle_read (Some c) (Some w) cause h = (c, w, refl, refl, cc)

cause_read : (words : List (List ℕ)) (cause : Cause) → cause_in words ≡ Some cause
    → (words ≡ map (λ w. word_text w) (cause_words cause)) × HasCauseIn cause
cause_read [] cause h = absurd cc
cause_read (name ∷ []) cause h =
    let (own, same) = chosen_only (bytes_eq name (codes "own")) Own cause h in
    let named : name ≡ codes "own" = name_is name (codes "own") own in
    rw (← same) (ap (λ (w : List ℕ). w ∷ []) named, tt)
cause_read (name ∷ cycle ∷ []) cause h = absurd cc
cause_read (name ∷ cycle ∷ worker ∷ []) cause h =
    let (is_cycle, by) = guarded (bytes_eq name (codes "cycle")) _ cause h in
    let (c, w, c_is, w_is, same) = cycle_read (exact_below (2 ^ 64) cycle) (exact_behind 119 worker) cause by in
    let named : name ≡ codes "cycle" = name_is name (codes "cycle") is_cycle in
    let (cycle_is, c_below) = exact_is_decimal (2 ^ 64) cycle c (omega arith) c_is in
    let (worker_is, w_below) = behind_read 119 worker w w_is in
    rw (← same) (
      three name (codes "cycle") cycle (decimal c) worker (119 ∷ decimal w) named cycle_is worker_is,
      (c_below, w_below),
    )
cause_read (name ∷ cycle ∷ worker ∷ other ∷ words) cause h = absurd cc

-- a notice
notice_parts : (o p : Option ℕ) (q : Option Cause) (r : Reply) → notice_by o p q ≡ Some r
    → (n : ℕ) × (k : ℕ) × (cause : Cause) × (o ≡ Some n) × (p ≡ Some k) × (q ≡ Some cause)
    × (replies.Notice n k cause ≡ r)
notice_parts None p q r h = absurd cc
notice_parts (Some n) None q r h = absurd cc
notice_parts (Some n) (Some k) None r h = absurd cc
notice_parts (Some n) (Some k) (Some cause) r h = (n, k, cause, refl, refl, refl, cc)

pub notice_read : (words : List (List ℕ)) (r : Reply) → notice_in words ≡ Some r
    → Tells r (codes "notice" ∷ words)
notice_read [] r h = absurd cc
notice_read (object ∷ []) r h = absurd cc
notice_read (object ∷ q ∷ words) r h =
    let (n, k, cause, n_is, k_is, cause_is, same) =
    notice_parts (exact_below (2 ^ 32) object) (exact_behind 113 q) (cause_in words) r h in
    let (object_is, n_below) = exact_is_decimal (2 ^ 32) object n (omega arith) n_is in
    let (queue_is, k_below) = behind_read 113 q k k_is in
    let (words_are, ranges) = cause_read words cause cause_is in
    rw (← same) (tells (two_and (codes "notice") (decimal n) object (113 ∷ decimal k) q
    (map (λ w. word_text w) (cause_words cause)) words (sym object_is) (sym queue_is) (sym words_are))
    (n_below, k_below, ranges) refl)

-- numbers in front
parted : (w : List ℕ) (ws : List (List ℕ)) (o : Option ℕ) → exact_below (2 ^ 32) w ≡ o
    → ws ≡ map (λ n. decimal n) (numbers_in_front ws) ++ behind_numbers ws
    → w ∷ ws ≡ map (λ n. decimal n) (onto_numbers o (numbers_in_front ws))
    ++ (if is_some o then behind_numbers ws else w ∷ ws)
parted w ws None h rest = refl
parted w ws (Some n) h rest = two w (decimal n) ws _ (exact_is_decimal (2 ^ 32) w n (omega arith) h).0 rest

numbers_parted : (words : List (List ℕ))
    → words ≡ map (λ n. decimal n) (numbers_in_front words) ++ behind_numbers words
numbers_parted [] = refl
numbers_parted (word ∷ words) = parted word words (exact_below (2 ^ 32) word) refl (numbers_parted words)

one_below : (w : List ℕ) (ns : List ℕ) (o : Option ℕ) → exact_below (2 ^ 32) w ≡ o
    → list_all (λ n. nat_lt n (2 ^ 32)) ns ≡ true → list_all (λ n. nat_lt n (2 ^ 32)) (onto_numbers o ns) ≡ true
one_below w ns None h rest = refl
one_below w ns (Some n) h rest = rw (lt-ltb n (2 ^ 32) (exact_is_decimal (2 ^ 32) w n (omega arith) h).1) rest

numbers_below : (words : List (List ℕ)) → list_all (λ n. nat_lt n (2 ^ 32)) (numbers_in_front words) ≡ true
numbers_below [] = refl
numbers_below (word ∷ words) =
    one_below word (numbers_in_front words) (exact_below (2 ^ 32) word) refl (numbers_below words)

few_of : (words : List (List ℕ)) (o : Option Reply) (r : Reply)
    → (if nat_le (length (numbers_in_front words)) 32 then o else None) ≡ Some r
    → AreNumbers (numbers_in_front words) × (o ≡ Some r)
few_of words o r h =
    let (few, same) = guarded (nat_le (length (numbers_in_front words)) 32) o r h in
    ((leb-true _ _ few, numbers_below words), same)

-- several notices
notices_parts : (ns : List ℕ) (o : Option ℕ) (p : Option Cause) (r : Reply) → notices_by ns o p ≡ Some r
    → (q : ℕ) × (c : ℕ) × (w : ℕ) × (o ≡ Some q) × (p ≡ Some (Cycle c w)) × (replies.Notices ns q c w ≡ r)
notices_parts ns None p r h = absurd cc
notices_parts ns (Some q) None r h = absurd cc
notices_parts ns (Some q) (Some Own) r h = absurd cc
notices_parts ns (Some q) (Some (Cycle c w)) r h = (q, c, w, refl, refl, cc)

behind_parts : (ns : List ℕ) (words : List (List ℕ)) (r : Reply) → notices_behind ns words ≡ Some r
    → (q : ℕ) × (c : ℕ) × (w : ℕ) × (words ≡ map (λ v. word_text v) (queue q ∷ cause_words (Cycle c w)))
    × (q < 2 ^ 32) × HasCauseIn (Cycle c w) × (replies.Notices ns q c w ≡ r)
behind_parts ns [] r h = absurd cc
behind_parts ns (word ∷ words) r h =
    let (q, c, w, q_is, cause_is, same) = notices_parts ns (exact_behind 113 word) (cause_in words) r h in
    let (word_is, q_below) = behind_read 113 word q q_is in
    let (words_are, ranges) = cause_read words (Cycle c w) cause_is in
    (q, c, w, two word (113 ∷ decimal q) words _ word_is words_are, q_below, ranges, same)

pub notices_read : (words : List (List ℕ)) (r : Reply) → notices_in words ≡ Some r
    → Tells r (codes "notices" ∷ words)
notices_read words r h =
    let (numbers, told) = few_of words (notices_behind (numbers_in_front words) (behind_numbers words)) r h in
    let (q, c, w, words_are, q_below, ranges, same) =
    behind_parts (numbers_in_front words) (behind_numbers words) r told in
    let whole : words ≡ map (λ n. decimal n) (numbers_in_front words)
    ++ map (λ v. word_text v) (queue q ∷ cause_words (Cycle c w)) =
    numbers_parted words ∙ ap (λ t. map (λ n. decimal n) (numbers_in_front words) ++ t) words_are in
    rw (← same) (tells (ap (λ t. codes "notices" ∷ t) (sym whole)) (numbers, q_below, ranges) refl)

-- what was taken by a `polls`
took_parts : (ns : List ℕ) (words : List (List ℕ)) (r : Reply) → took_by ns words ≡ Some r
    → (words ≡ []) × (replies.TookSome ns ≡ r)
took_parts ns [] r h = (refl, cc)
took_parts ns (word ∷ words) r h = absurd cc

pub took_read : (words : List (List ℕ)) (r : Reply) → took_in words ≡ Some r
    → (ns : List ℕ) × AreNumbers ns × (words ≡ map (λ n. decimal n) ns) × (replies.TookSome ns ≡ r)
took_read words r h =
    let (numbers, told) = few_of words (took_by (numbers_in_front words) (behind_numbers words)) r h in
    let (none, same) = took_parts (numbers_in_front words) (behind_numbers words) r told in
    let whole : words ≡ map (λ n. decimal n) (numbers_in_front words) =
    numbers_parted words ∙ ap (λ t. map (λ n. decimal n) (numbers_in_front words) ++ t) none
    ∙ append-nil (map (λ n. decimal n) (numbers_in_front words)) in
    (numbers_in_front words, numbers, whole, same)

-- any reply of no batch
refused_read : (words : List (List ℕ)) (r : Reply) → option_map (λ f. replies.Refused f) (fault_in words) ≡ Some r
    → Tells r (codes "refused" ∷ words)
refused_read words r h = by (fault_in words) refl h
  where
    by : (o : Option Fault) → fault_in words ≡ o → option_map (λ f. replies.Refused f) o ≡ Some r
        → Tells r (codes "refused" ∷ words)
    by None is e = absurd cc
    by (Some f) is e =
        let same : replies.Refused f ≡ r = cc in
        rw (← same) (tells (ap (λ t. codes "refused" ∷ t) (sym (refusal_read words f is))) tt refl)

pub single_read : (words : List (List ℕ)) (r : Reply) → single_in words ≡ Some r → Tells r words
single_read [] r h = absurd cc
single_read (name ∷ words) r h =
    elim (split (bytes_eq name (codes "refused")) _ _ r h) [
      | inl is ↦ rw (name_is name (codes "refused") is.0) (refused_read words r is.1)
      | inr other ↦
          elim (split (bytes_eq name (codes "notice")) _ _ r other) [
            | inl is ↦ rw (name_is name (codes "notice") is.0) (notice_read words r is.1)
            | inr another ↦
                elim (split (bytes_eq name (codes "notices")) _ _ r another) [
                  | inl is ↦ rw (name_is name (codes "notices") is.0) (notices_read words r is.1)
                  | inr plain ↦ plain_read name words r plain
                ]
          ]
    ]
