-- What is read of a reply's numbers and list is that reply.
use Rattle.std.proofs.Common.{◌≡◌, ℕ, ◌+◌, ◌<◌, ◌≤◌, ◌^◌, Bool, true, false, List, [], ◌∷◌, ◌++◌, length, refl, ap, sym}
use Rattle.std.proofs.Common.{◌∙◌, Option, None, Some, arith, subst, append_assoc}
use Rattle.std.proofs.Common.{◌⊎◌, ◌==◌, inl, inr}
use Rattle.std.proofs.lemmas.Bool.{eqb-true}
use Rattle.std.proofs.Common.{◌-◌, drop, get_or, take}
use Rattle.std.proofs.Math.Seq.{take-length}
use Rattle.std.proofs.lemmas.List.{length-append}
use Rattle.std.specs.Prelude.{nat_lt, if◌then◌else◌, MatchOption}
use Rattle.std.specs.List.{list_all, list_any}
use Rattle.ref_base.specs.Faults.{number_of}
use Rattle.ref_base.specs.Outs.{Outs, is_added, out_of, outs_of}
use Rattle.ref_base.specs.declared.cause.Cause.TheVariants.{Own, Cycle as OfCycle}
use Rattle.ref_base.specs.declared.fault.Fault.{Fault}
use Rattle.ref_base.specs.declared.fault.Fault.TheVariants.{BadConfig}
use Rattle.ref_base.specs.declared.out.Done.{Done}
use Rattle.ref_base.specs.declared.out.Done.TheVariants as done
use Rattle.ref_base.specs.declared.reply.Reply.{Reply}
use Rattle.ref_base.specs.declared.reply.Reply.TheVariants as replies
use Rattle.ref_c.specs.GivenReplies.{AreMoreObjects, AreMoreOuts, HasRoom, IsNoOut, IsNoReply, IsOut, IsReplyOf}
use Rattle.ref_c.specs.GivenReplies.{Reads}
use Rattle.ref_c.specs.GivenReplies.{each_fault, first_added, first_numbered, plain_reply}
use Rattle.ref_c.specs.ReplyNumbers.{of_count, out_numbers, outs_numbers, reply_listed, reply_numbers}
use Rattle.ref_c.specs.declared.answer.RefReply.{RefReply}

pub fault-is-read : (f : Fault) → first_numbered each_fault (number_of f) ≡ Some f
fault-is-read BadConfig = refl
fault-is-read fault = refl

-- ---- lists of objects

-- ---- batches

abbrev first_in : List ℕ → ℕ
first_in [] = 0
first_in (n ∷ ns) = n

kind_is : (kind number next : ℕ) (d : Done) → IsOut kind number next d → first_in (out_numbers (out_of next d)) ≡ kind
kind_is kind number next d is = ap (λ (ns : List ℕ). first_in ns) is

abbrev pub behind : ℕ → Done → ℕ
behind next d = if is_added d then next + 1 else next

-- whether one is added, by its kind
added_by_kind : (next : ℕ) (d : Done) → is_added d ≡ (first_in (out_numbers (out_of next d)) == 73)
added_by_kind next done.Added = refl
added_by_kind next done.Already = refl
added_by_kind next done.Closed = refl
added_by_kind next (done.Refused fault) = refl

-- what stands behind the two numbers of one
abbrev rest_of : List ℕ → List ℕ
rest_of [] = []
rest_of (n ∷ []) = []
rest_of (n ∷ m ∷ ns) = ns

first_of_one : (next : ℕ) (d : Done) (ns : List ℕ)
    → first_in (out_numbers (out_of next d) ++ ns) ≡ first_in (out_numbers (out_of next d))
first_of_one next done.Added ns = refl
first_of_one next done.Already ns = refl
first_of_one next done.Closed ns = refl
first_of_one next (done.Refused fault) ns = refl

rest_behind_one : (next : ℕ) (d : Done) (ns : List ℕ) → rest_of (out_numbers (out_of next d) ++ ns) ≡ ns
rest_behind_one next done.Added ns = refl
rest_behind_one next done.Already ns = refl
rest_behind_one next done.Closed ns = refl
rest_behind_one next (done.Refused fault) ns = refl

-- none of which the first is told by two numbers is told by what stands behind them, where none is
none-told : (outs : Outs) (next kind number : ℕ) (rest : List ℕ) (d : Done) → IsOut kind number next d
    → AreMoreOuts (record { before = outs.before; done = outs.done ++ d ∷ [] }) (behind next d) rest None
    → (more : List Done) → length outs.done + length more ≤ 32
    → outs_numbers (outs_of next more) ≡ kind ∷ number ∷ rest → ⊥
none-told outs next kind number rest d is none [] room lists =
    absurd cc
none-told outs next kind number rest d is none (e ∷ more) room lists =
    let others = outs_numbers (outs_of (behind next e) more) in
    let kinds : first_in (out_numbers (out_of next e)) ≡ kind =
    sym (first_of_one next e others) ∙ ap (λ (ns : List ℕ). first_in ns) lists in
    let alike : is_added e ≡ is_added d =
    added_by_kind next e ∙ ap (λ (n : ℕ). n == 73) (kinds ∙ sym (kind_is kind number next d is))
    ∙ sym (added_by_kind next d) in
    let listed : others ≡ rest = sym (rest_behind_one next e others) ∙ ap (λ (ns : List ℕ). rest_of ns) lists in
    let told : outs_numbers (outs_of (behind next d) more) ≡ rest =
    subst (λ (b : Bool). outs_numbers (outs_of (if b then next + 1 else next) more) ≡ rest) alike listed in
    let fits : length (outs.done ++ d ∷ []) + length more ≤ 32 =
    omega (arith, room, length-append outs.done (d ∷ [])) in
    none more fits told

-- two numbers that tell of none, one number alone, and what is behind 32
abbrev two_in : List ℕ → List ℕ
two_in [] = []
two_in (n ∷ []) = n ∷ []
two_in (n ∷ m ∷ ns) = n ∷ m ∷ []

two_of_one : (next : ℕ) (d : Done) (ns : List ℕ)
    → two_in (out_numbers (out_of next d) ++ ns) ≡ out_numbers (out_of next d)
two_of_one next done.Added ns = refl
two_of_one next done.Already ns = refl
two_of_one next done.Closed ns = refl
two_of_one next (done.Refused fault) ns = refl

pub none-by-two : (outs : Outs) (next kind number : ℕ) (rest : List ℕ) → IsNoOut kind number next
    → (more : List Done) → length outs.done + length more ≤ 32
    → outs_numbers (outs_of next more) ≡ kind ∷ number ∷ rest → ⊥
none-by-two outs next kind number rest not [] room lists = absurd cc
none-by-two outs next kind number rest not (e ∷ more) room lists =
    not e (sym (two_of_one next e (outs_numbers (outs_of (behind next e) more)))
    ∙ ap (λ (ns : List ℕ). two_in ns) lists)

-- what is read behind one more is read behind those before it
pub outs-before : (outs : Outs) (next kind number : ℕ) (rest : List ℕ) (d : Done) (result : Option Outs)
    → IsOut kind number next d
    → AreMoreOuts (record { before = outs.before; done = outs.done ++ d ∷ [] }) (behind next d) rest result
    → AreMoreOuts outs next (kind ∷ number ∷ rest) result
outs-before outs next kind number rest d None is none = none-told outs next kind number rest d is none
outs-before outs next kind number rest d (Some all) is (more, all_is, lists) = (
  d ∷ more,
  all_is ∙ ap (λ (ds : List Done). record { before = outs.before; done = ds }) (append_assoc outs.done (d ∷ []) more),
  ap (λ (ns : List ℕ). out_numbers (out_of next d) ++ ns) lists ∙ ap (λ (ns : List ℕ). ns ++ rest) is,
)

-- a list of two and more
pub two-in-front : (list : List ℕ) → 2 ≤ length list
    → list ≡ get_or list 0 0 ∷ get_or list 1 0 ∷ take (length list - 2) (drop 2 list)
two-in-front [] some = absurd (grind (arith, some))
two-in-front (n ∷ []) some = absurd (grind (arith, some))
two-in-front (n ∷ m ∷ ns) some = grind (arith, take-length ns)

-- where the first isn't added, the first that is stands behind it
pub first-behind : (list : List ℕ) (before result : ℕ) → 2 ≤ length list → ¬ (get_or list 0 0 ≡ 73)
    → result ≡ first_added (take (length list - 2) (drop 2 list)) before → result ≡ first_added list before
first-behind [] before result some not is = absurd (grind (arith, some))
first-behind (n ∷ []) before result some not is = absurd (grind (arith, some))
first-behind (n ∷ m ∷ ns) before result some not is = grind (arith, take-length ns, not, is)

pub none-at-front : (outs : Outs) (next : ℕ) (list : List ℕ) → 2 ≤ length list
    → IsNoOut (get_or list 0 0) (get_or list 1 0) next → AreMoreOuts outs next list None
none-at-front outs next list some not more room lists =
    none-by-two outs next (get_or list 0 0) (get_or list 1 0) (take (length list - 2) (drop 2 list)) not more room
    (lists ∙ two-in-front list some)

added_number : (next : ℕ) (b : Bool) → next + (if b then 1 else 0) ≡ (if b then next + 1 else next)
added_number next true = refl
added_number next false = grind arith

pub outs-at-front : (outs pushed : Outs) (next added : ℕ) (list : List ℕ) (d : Done) (result : Option Outs)
    → 2 ≤ length list → IsOut (get_or list 0 0) (get_or list 1 0) next d
    → pushed ≡ record { before = outs.before; done = outs.done ++ d ∷ [] } → added ≡ (if is_added d then 1 else 0)
    → AreMoreOuts pushed (next + added) (take (length list - 2) (drop 2 list)) result
    → AreMoreOuts outs next list result
outs-at-front outs pushed next added list d result some is pushed_is added_is more =
    let rest = take (length list - 2) (drop 2 list) in
    let goes : next + added ≡ behind next d = ap (λ (n : ℕ). next + n) added_is ∙ added_number next (is_added d) in
    let behind_it : AreMoreOuts (record { before = outs.before; done = outs.done ++ d ∷ [] }) (behind next d) rest
    result =
    subst (λ (o : Outs). AreMoreOuts o (behind next d) rest result) pushed_is
    (subst (λ (n : ℕ). AreMoreOuts pushed n rest result) goes more) in
    subst (λ (ns : List ℕ). AreMoreOuts outs next ns result) (sym (two-in-front list some))
    (outs-before outs next (get_or list 0 0) (get_or list 1 0) rest d result is behind_it)

-- ---- replies that list nothing

-- whether a reply is one that lists
abbrev pub is_listing : Reply → Bool
is_listing (replies.Notices objects queue cycle worker) = true
is_listing (replies.TookSome objects) = true
is_listing (replies.Outs outs) = true
is_listing reply = false

pub plain-is-read : (reply : Reply) → is_listing reply ≡ false → plain_reply (reply_numbers reply) ≡ Some reply
plain-is-read (replies.Refers true) is = refl
plain-is-read (replies.Refers false) is = refl
plain-is-read (replies.Notice object queue (OfCycle cycle worker)) is = refl
plain-is-read (replies.Notice object queue Own) is = refl
plain-is-read (replies.Notices objects queue cycle worker) is = absurd cc
plain-is-read (replies.TookSome objects) is = absurd cc
plain-is-read (replies.Outs outs) is = absurd cc
plain-is-read (replies.Refused fault) is = rw (fault-is-read fault) refl
plain-is-read reply is = refl

-- numbers of which no reply is read that lists nothing are those of one that lists
pub not-plain : (numbers : RefReply) (reply : Reply) → plain_reply numbers ≡ None → reply_numbers reply ≡ numbers
    → is_listing reply ≡ false → ⊥
not-plain numbers reply none numbered plain =
    let read = plain-is-read reply plain in
    let is : plain_reply (reply_numbers reply) ≡ None = ap (λ (n : RefReply). plain_reply n) numbered ∙ none in
    absurd cc

pub plain-of-76 : (n : RefReply) → n.kind ≡ 76 → plain_reply n ≡ None
plain-of-76 n is = rw is refl

abbrev kind_in : RefReply → ℕ
kind_in n = n.kind

-- ---- replies of kind 71

-- ---- of kind 78

-- ---- of kind 76

-- where one was added, the first place that is listed is how many were put in before
pub first-of-added : (before other : ℕ) (ds : List Done) → list_any is_added ds ≡ true
    → first_added (outs_numbers (outs_of before ds)) other ≡ before
first-of-added before other [] some = absurd cc
first-of-added before other (done.Added ∷ ds) some = refl
first-of-added before other (done.Already ∷ ds) some = first-of-added before other ds some
first-of-added before other (done.Closed ∷ ds) some = first-of-added before other ds some
first-of-added before other (done.Refused fault ∷ ds) some = first-of-added before other ds some

-- and where none was, no place is listed
pub first-of-none : (before other : ℕ) (ds : List Done) → list_any is_added ds ≡ false
    → first_added (outs_numbers (outs_of before ds)) other ≡ other
first-of-none before other [] none = refl
first-of-none before other (done.Added ∷ ds) none = absurd cc
first-of-none before other (done.Already ∷ ds) none = first-of-none before other ds none
first-of-none before other (done.Closed ∷ ds) none = first-of-none before other ds none
first-of-none before other (done.Refused fault ∷ ds) none = first-of-none before other ds none

pub numbers-of-none : (before other : ℕ) (ds : List Done) → list_any is_added ds ≡ false
    → outs_numbers (outs_of before ds) ≡ outs_numbers (outs_of other ds)
numbers-of-none before other [] none = refl
numbers-of-none before other (done.Added ∷ ds) none = absurd cc
numbers-of-none before other (done.Already ∷ ds) none =
    ap (λ (ns : List ℕ). 74 ∷ 0 ∷ ns) (numbers-of-none before other ds none)
numbers-of-none before other (done.Closed ∷ ds) none =
    ap (λ (ns : List ℕ). 75 ∷ 0 ∷ ns) (numbers-of-none before other ds none)
numbers-of-none before other (done.Refused fault ∷ ds) none =
    ap (λ (ns : List ℕ). 89 ∷ number_of fault ∷ ns) (numbers-of-none before other ds none)

-- what a batch lists is what it would list behind the first place that it lists
numbers-by : (b : Bool) (before other : ℕ) (ds : List Done) → list_any is_added ds ≡ b
    → outs_numbers (outs_of (first_added (outs_numbers (outs_of before ds)) other) ds)
    ≡ outs_numbers (outs_of before ds)
numbers-by true before other ds some = rw (first-of-added before other ds some) refl
numbers-by false before other ds none =
    rw (first-of-none before other ds none) (numbers-of-none other before ds none)

pub numbers-behind-first : (before other : ℕ) (ds : List Done)
    → outs_numbers (outs_of (first_added (outs_numbers (outs_of before ds)) other) ds)
    ≡ outs_numbers (outs_of before ds)
numbers-behind-first before other ds = numbers-by (list_any is_added ds) before other ds refl

-- it is no more than the greater of the two
first-by : (b : Bool) (before other : ℕ) (ds : List Done) → list_any is_added ds ≡ b → before < 2 ^ 63
    → other < 2 ^ 63 → first_added (outs_numbers (outs_of before ds)) other < 2 ^ 63
first-by true before other ds some below near = rw (first-of-added before other ds some) below
first-by false before other ds none below near = rw (first-of-none before other ds none) near

pub first-is-below : (before other : ℕ) (ds : List Done) → before < 2 ^ 63 → other < 2 ^ 63
    → first_added (outs_numbers (outs_of before ds)) other < 2 ^ 63
first-is-below before other ds below near = first-by (list_any is_added ds) before other ds refl below near

pub no-outs-so-far : (numbers : RefReply) (list : List ℕ) (before : ℕ) → numbers.kind ≡ 76 → before < 2 ^ 63
    → 2 ^ 63 ≤ first_added list before → IsNoReply numbers list
no-outs-so-far numbers list before kind near far (replies.Outs outs) room numbered listed =
    let below = first-is-below outs.before before outs.done room.0 near in
    let less = subst (λ (ns : List ℕ). first_added ns before < 2 ^ 63) listed below in
    absurd (omega (arith, less, far))
no-outs-so-far numbers list before kind near far (replies.Notices objects queue cycle worker) room numbered listed =
    let is : 71 ≡ 76 = ap (λ (n : RefReply). kind_in n) numbered ∙ kind in absurd (omega (arith, is))
no-outs-so-far numbers list before kind near far (replies.TookSome objects) room numbered listed =
    let is : 78 ≡ 76 = ap (λ (n : RefReply). kind_in n) numbered ∙ kind in absurd (omega (arith, is))
no-outs-so-far numbers list before kind near far reply room numbered listed =
    not-plain numbers reply (plain-of-76 numbers kind) numbered refl

pub no-outs-listed : (numbers : RefReply) (list : List ℕ) (before : ℕ) → numbers.kind ≡ 76
    → AreMoreOuts (record { before = first_added list before; done = [] }) (first_added list before) list None
    → IsNoReply numbers list
no-outs-listed numbers list before kind none (replies.Outs outs) room numbered listed =
    none outs.done (grind (arith, room.1))
    (subst (λ (ns : List ℕ). outs_numbers (outs_of (first_added ns before) outs.done) ≡ ns)
    listed (numbers-behind-first outs.before before outs.done))
no-outs-listed numbers list before kind none (replies.Notices objects queue cycle worker) room numbered listed =
    let is : 71 ≡ 76 = ap (λ (n : RefReply). kind_in n) numbered ∙ kind in absurd (omega (arith, is))
no-outs-listed numbers list before kind none (replies.TookSome objects) room numbered listed =
    let is : 78 ≡ 76 = ap (λ (n : RefReply). kind_in n) numbered ∙ kind in absurd (omega (arith, is))
no-outs-listed numbers list before kind none reply room numbered listed =
    not-plain numbers reply (plain-of-76 numbers kind) numbered refl

-- a batch lists two numbers of each
pub listed-length : (before : ℕ) (ds : List Done)
    → length (outs_numbers (outs_of before ds)) ≡ length ds + length ds
listed-length before [] = refl
listed-length before (done.Added ∷ ds) = grind (arith, listed-length (before + 1) ds)
listed-length before (done.Already ∷ ds) = grind (arith, listed-length before ds)
listed-length before (done.Closed ∷ ds) = grind (arith, listed-length before ds)
listed-length before (done.Refused fault ∷ ds) = grind (arith, listed-length before ds)

pub none-by-one : (next : ℕ) (list : List ℕ) (more : List Done) → 1 ≤ length list → length list < 2
    → outs_numbers (outs_of next more) ≡ list → ⊥
none-by-one next list more some few lists =
    let many : length more + length more ≡ length list =
    sym (listed-length next more) ∙ ap (λ (ns : List ℕ). length ns) lists in
    absurd (omega (arith, many, some, few))

-- batches that list as many numbers are of as many
pub listed-alike : (list : List ℕ) (one other : ℕ) (ds es : List Done) → outs_numbers (outs_of one ds) ≡ list
    → outs_numbers (outs_of other es) ≡ list → length ds ≡ length es
listed-alike list one other ds es lists alike =
    let first : length ds + length ds ≡ length list = sym (listed-length one ds) ∙ ap length lists in
    let second : length es + length es ≡ length list = sym (listed-length other es) ∙ ap length alike in
    omega (arith, first, second)

pub no-other-outs : (numbers : RefReply) (list : List ℕ) (before first : ℕ) (all more : List Done)
    → numbers.kind ≡ 76 → all ≡ more → outs_numbers (outs_of first more) ≡ list
    → ¬ (reply_numbers (replies.Outs (record { before = first; done = all })) ≡ numbers) → IsNoReply numbers list
no-other-outs numbers list before first all more kind is lists not (replies.Outs outs) room numbered listed =
    let many : length all ≡ length outs.done =
    ap length is ∙ listed-alike list first outs.before more outs.done lists listed in
    not (ap (λ (n : ℕ). of_count 76 n) many ∙ numbered)
no-other-outs numbers list before first all more kind is lists not (replies.Notices objects queue cycle worker) room
    numbered listed =
    let same : 71 ≡ 76 = ap (λ (n : RefReply). kind_in n) numbered ∙ kind in absurd (omega (arith, same))
no-other-outs numbers list before first all more kind is lists not (replies.TookSome objects) room numbered listed =
    let same : 78 ≡ 76 = ap (λ (n : RefReply). kind_in n) numbered ∙ kind in absurd (omega (arith, same))
no-other-outs numbers list before first all more kind is lists not reply room numbered listed =
    not-plain numbers reply (plain-of-76 numbers kind) numbered refl

pub outs-read : (numbers : RefReply) (list : List ℕ) (before first : ℕ) (all : Outs) (more : List Done)
    → first ≡ first_added list before → all ≡ record { before = first; done = more }
    → outs_numbers (outs_of first more) ≡ list → reply_numbers (replies.Outs all) ≡ numbers
    → IsReplyOf numbers list before (replies.Outs all)
outs-read numbers list before first all more first_is is lists numbered = record {
  numbered = numbered;
  listed = rw is lists;
  placed = λ outs same none.
      let whole : outs ≡ record { before = first; done = more } = cc in
      let unadded : list_any is_added more ≡ false = ap (λ (o : Outs). list_any is_added o.done) (sym whole) ∙ none in
      ap (λ (o : Outs). o.before) whole ∙ first_is
      ∙ subst (λ (ns : List ℕ). first_added ns before ≡ before) lists (first-of-none first before more unadded);
}

-- ---- of other kinds

-- of other kinds than batches' no reply lists
pub is-no-batch : (numbers : RefReply) (reply : Reply) → ¬ (numbers.kind ≡ 71) → ¬ (numbers.kind ≡ 76)
    → ¬ (numbers.kind ≡ 78) → reply_numbers reply ≡ numbers → is_listing reply ≡ false
is-no-batch numbers (replies.Notices objects queue cycle worker) notices outs took numbered =
    absurd (notices (sym (ap (λ (n : RefReply). kind_in n) numbered)))
is-no-batch numbers (replies.Outs all) notices outs took numbered =
    absurd (outs (sym (ap (λ (n : RefReply). kind_in n) numbered)))
is-no-batch numbers (replies.TookSome objects) notices outs took numbered =
    absurd (took (sym (ap (λ (n : RefReply). kind_in n) numbered)))
is-no-batch numbers reply notices outs took numbered = refl

module _ (numbers : RefReply) (list : List ℕ) (notices : ¬ (numbers.kind ≡ 71)) (outs : ¬ (numbers.kind ≡ 76))
    (took : ¬ (numbers.kind ≡ 78)) where
  pub none-plain : plain_reply numbers ≡ None → IsNoReply numbers list
  none-plain none reply room numbered listed =
      not-plain numbers reply none numbered (is-no-batch numbers reply notices outs took numbered)

-- ---- what each reader answers

-- a reply is given where it has just these numbers
abbrev pub IsGivenIfSo : RefReply → Reply → Option Reply → Type 0
IsGivenIfSo numbers reply result =
    MatchOption result (¬ (reply_numbers reply ≡ numbers))
    (λ same. (same ≡ reply) × (reply_numbers reply ≡ numbers))

pub outs-none-answer : (numbers : RefReply) (list : List ℕ) (before first : ℕ) (outs : Outs) (result : Option Reply)
    → numbers.kind ≡ 76 → first ≡ first_added list before → outs ≡ record { before = first; done = [] }
    → result ≡ None → AreMoreOuts outs first list None → Reads numbers list before result
outs-none-answer numbers list before first outs result kind first_is outs_is none more =
    let opened : AreMoreOuts (record { before = first; done = [] }) first list None =
    subst (λ (o : Outs). AreMoreOuts o first list None) outs_is more in
    let placed : AreMoreOuts (record { before = first_added list before; done = [] }) (first_added list before) list
    None = subst (λ (n : ℕ). AreMoreOuts (record { before = n; done = [] }) n list None) first_is opened in
    rw none (no-outs-listed numbers list before kind placed)

pub outs-answer : (numbers : RefReply) (list : List ℕ) (before first : ℕ) (all : Outs) (result : Option Reply)
    → numbers.kind ≡ 76 → first ≡ first_added list before
    → AreMoreOuts (record { before = first; done = [] }) first list (Some all)
    → IsGivenIfSo numbers (replies.Outs all) result → Reads numbers list before result
outs-answer numbers list before first all None kind first_is (more, is, lists) not =
    no-other-outs numbers list before first more more kind refl lists
    (λ numbered. not (rw is numbered))
outs-answer numbers list before first all (Some same) kind first_is (more, is, lists) given =
    rw given.0 (outs-read numbers list before first all more first_is is lists given.1)
