-- What the reading of a reply answers, by the kind of its step.
use Rattle.ref_script.proofs.Common.{◌≡◌, ℕ, ◌<◌, ◌^◌, Bool, true, false, List, [], ◌∷◌, length, Option, Some}
use Rattle.ref_script.proofs.Common.{None}
use Rattle.ref_script.proofs.Common.{refl, sym, ap, ◌∙◌, arith, inl, inr, codes, bytes_eq, words_of, map}
use Rattle.std.proofs.Common.{decimal, if◌then◌else◌}
use Rattle.std.specs.Option.{MatchOption, option_map}
use Rattle.std.specs.List.{list_any}
use Rattle.ref_base.specs.Outs.{Outs, is_added}
use Rattle.ref_base.specs.declared.reply.Reply.{Reply}
use Rattle.ref_base.specs.declared.reply.Reply.TheVariants as replies
use Rattle.ref_script.specs.ReplyKinds.{AreNumbers, IsToldReply, NoneIsTold, IsInRanges, is_of_one, is_of_polls}
use Rattle.ref_script.specs.ReplyKinds.{is_of_puts}
use Rattle.ref_script.specs.ReplyReading.{single_in, polled_in, took_in, is_of_put, batch_in, first_position, IsBatch}
use Rattle.ref_script.specs.ReplyReading.{IsNoBatch}
use Rattle.ref_script.proofs.ToldBatches.{batch_back, batch_read, batch_text, position_back, told_batch}
use Rattle.ref_base.specs.declared.fault.Fault.TheVariants.{NoMemory}
use Rattle.ref_script.proofs.Common.{◌+◌, subst}
use Rattle.ref_script.specs.ReplyKinds.{IsToldSo, NoneIsToldSo}
use Rattle.ref_script.specs.ReplyReading.{exact_below, jobs_in, ran_by, ran_in, fault_in, said_in}
use Rattle.ref_script.specs.ScriptSteps.{script_reply_text}
use Rattle.ref_script.specs.declared.reply_kind.ReplyKind.TheVariants as kinds
use Rattle.ref_script.specs.declared.script_step.ScriptReply.{ScriptReply}
use Rattle.ref_script.specs.declared.script_step.ScriptReply.TheVariants as said
use Rattle.ref_base.specs.declared.fault.Fault.{Fault}
use Rattle.ref_queue.specs.declared.job.Ran.{Ran}
use Rattle.ref_script.proofs.Common.{Letters, Long}
use Rattle.ref_script.proofs.ExactNumbers.{decimal_is_exact, exact_is_decimal}
use Rattle.ref_script.proofs.ReadBack.{refusal_back, single_back, took_back}
use Rattle.ref_script.proofs.ReplyTexts.{refused_words, text_told, took_words}
use Rattle.ref_script.proofs.ReplyWords.{decimal_word, text_words}
use Rattle.ref_script.proofs.ToldReplies.{Tells, told_words, single_read, took_read, split, two, name_is, chosen}
use Rattle.ref_script.proofs.ToldReplies.{chosen_only, refusal_read, three}

-- ---- of one thing

one_told : (words : List (List ℕ)) (r : Reply) → single_in words ≡ Some r → IsToldReply is_of_one words r
one_told words r h =
    let t = single_read words r h in record {
      of_kind = t.of_one;
      ranges = t.ranges;
      words_are = text_told r t.ranges t.of_one ∙ t.words_are;
    }

pub one_back : (words : List (List ℕ)) (r : Reply) → IsToldReply is_of_one words r → single_in words ≡ Some r
one_back words r h =
    ap single_in (sym h.words_are ∙ text_told r h.ranges h.of_kind) ∙ single_back r h.ranges h.of_kind

pub one_answer : (words : List (List ℕ)) (o : Option Reply) → o ≡ single_in words
    → MatchOption o (NoneIsTold is_of_one words) (λ r. IsToldReply is_of_one words r)
one_answer words None h = λ r told. let some = one_back words r told in absurd cc
one_answer words (Some r) h = one_told words r (sym h)

-- ---- of a poll of several

-- a reply of one thing is none that was taken, since its words would begin with `took`
not_took : (name : List ℕ) (words : List (List ℕ)) (r : Reply) → bytes_eq name (codes "took") ≡ false
    → Tells r (name ∷ words) → is_of_polls r ≡ true
not_took name words (replies.Took n) h t =
    let named : codes "took" ≡ name = first _ _ _ _ t.words_are in
    let same : bytes_eq name (codes "took") ≡ true = ap (λ m. bytes_eq m (codes "took")) (sym named) in absurd cc
  where
    first : (a b : List ℕ) (c d : List (List ℕ)) → (a ∷ c) ≡ (b ∷ d) → a ≡ b
    first a b c d e = cc
not_took name words (replies.TookSome ns) h t = let one = t.of_one in absurd cc
not_took name words (replies.Outs outs) h t = let one = t.of_one in absurd cc
not_took name words r h t = refl

told_as : (test : Reply → Bool) (words others : List (List ℕ)) (q r : Reply) → others ≡ words → q ≡ r
    → IsToldReply test words q → IsToldReply test others r
told_as test words others q r same reply told = rw (same, ← reply) told

list_told : (ns : List ℕ) → AreNumbers ns
    → IsToldReply is_of_polls (codes "took" ∷ map (λ n. decimal n) ns) (replies.TookSome ns)
list_told ns numbers = record { of_kind = refl; ranges = numbers; words_are = took_words ns numbers.1 }

polls_told : (words : List (List ℕ)) (r : Reply) → polled_in words ≡ Some r → IsToldReply is_of_polls words r
polls_told [] r h = absurd cc
polls_told (name ∷ words) r h = by (bytes_eq name (codes "took")) refl h
  where
    by : (b : Bool) → bytes_eq name (codes "took") ≡ b
        → (if b then took_in words else single_in (name ∷ words)) ≡ Some r → IsToldReply is_of_polls (name ∷ words) r
    by true is e =
        let (ns, numbers, words_are, same) = took_read words r e in
        told_as is_of_polls (codes "took" ∷ map (λ n. decimal n) ns) (name ∷ words) (replies.TookSome ns) r
        (two name (codes "took") words _ (name_is name (codes "took") is) words_are) same (list_told ns numbers)
    by false isnt e =
        let t = single_read (name ∷ words) r e in record {
          of_kind = not_took name words r isnt t;
          ranges = t.ranges;
          words_are = text_told r t.ranges t.of_one ∙ t.words_are;
        }

-- the words of another reply begin with another name
polls_of_one : (r : Reply) → IsInRanges r → is_of_polls r ≡ true → is_of_one r ≡ true
    → polled_in (told_words r) ≡ Some r
polls_of_one (replies.Took n) h polls one = absurd cc
polls_of_one (replies.TookSome ns) h polls one = absurd cc
polls_of_one (replies.Outs outs) h polls one = absurd cc
polls_of_one (replies.Refers true) h polls one = refl
polls_of_one (replies.Refers false) h polls one = refl
polls_of_one r h polls one = single_back r h one

polls_one : (words : List (List ℕ)) (r : Reply) → is_of_one r ≡ true → IsToldReply is_of_polls words r
    → polled_in words ≡ Some r
polls_one words r one told =
    ap polled_in (sym told.words_are ∙ text_told r told.ranges one) ∙ polls_of_one r told.ranges told.of_kind one

pub polls_back : (words : List (List ℕ)) (r : Reply) → IsToldReply is_of_polls words r → polled_in words ≡ Some r
polls_back words (replies.TookSome ns) told =
    ap polled_in (sym told.words_are ∙ took_words ns told.ranges.1) ∙ took_back ns told.ranges
polls_back words (replies.Outs outs) told = let kind = told.of_kind in absurd cc
polls_back words r told = polls_one words r refl told

pub polls_answer : (words : List (List ℕ)) (o : Option Reply) → o ≡ polled_in words
    → MatchOption o (NoneIsTold is_of_polls words) (λ r. IsToldReply is_of_polls words r)
polls_answer words None h = λ r told. let some = polls_back words r told in absurd cc
polls_answer words (Some r) h = polls_told words r (sym h)

-- ---- of a `puts`

-- a reply that is told of a put alone isn't one to a `puts`
put_alone : (r : Reply) → is_of_one r ≡ true → is_of_puts r ≡ true → is_of_put r ≡ true → ⊥
put_alone (replies.Added n) one puts put = absurd cc
put_alone replies.Already one puts put = absurd cc
put_alone replies.Closed one puts put = absurd cc
put_alone (replies.Refused NoMemory) one puts put = absurd cc
put_alone (replies.Refused fault) one puts put = absurd cc
put_alone r one puts put = absurd cc

not_put : (r : Reply) → is_of_one r ≡ true → is_of_put r ≡ false → is_of_puts r ≡ true
not_put (replies.TookSome ns) one other = absurd cc
not_put (replies.Outs outs) one other = absurd cc
not_put (replies.Added n) one other = absurd cc
not_put replies.Already one other = absurd cc
not_put replies.Closed one other = absurd cc
not_put (replies.Refused NoMemory) one other = absurd cc
not_put (replies.Refused fault) one other = refl
not_put r one other = refl

-- a batch was read
pub puts_batch : (words : List (List ℕ)) (outs : Outs) → outs.before < 2 ^ 63
    → IsBatch (first_position words) words outs → IsToldReply is_of_puts words (replies.Outs outs)
puts_batch words outs half h =
    let read = batch_read (first_position words) words outs.done h.1 in
    let small : outs.before + length outs.done < 2 ^ 64 = omega (arith, half, h.2) in record {
      of_kind = read.1;
      ranges = (half, h.2);
      words_are =
          batch_text outs.before outs.done read.1 small ∙ ap (λ k. told_batch k outs.done) h.0 ∙ read.0;
    }

-- a batch is read back from its words
module _ (words : List (List ℕ)) (outs : Outs) (told : IsToldReply is_of_puts words (replies.Outs outs)) where
  pub batch_below : outs.before + length outs.done < 2 ^ 64
  batch_below = let half = told.ranges.0 in let few = told.ranges.1 in omega (arith, half, few)

  pub batch_words : words ≡ told_batch outs.before outs.done
  batch_words = sym told.words_are ∙ batch_text outs.before outs.done told.of_kind batch_below

  pub first_back : list_any is_added outs.done ≡ true → first_position words ≡ outs.before
  first_back any =
      ap first_position batch_words ∙ position_back outs.before outs.done told.of_kind told.ranges.0 any

  pub done_back : batch_in (first_position words) words ≡ Some outs.done
  done_back =
      ap (batch_in (first_position words)) batch_words
      ∙ batch_back outs.before (first_position words) outs.done told.of_kind batch_below first_back

-- no batch was read, so there is none
no_batch : (words : List (List ℕ)) (outs : Outs) → IsNoBatch (first_position words) words
    → IsToldReply is_of_puts words (replies.Outs outs) → ⊥
no_batch words outs none told =
    omega (arith, none outs.done (done_back words outs told), told.ranges.1)

pub puts_one : (words : List (List ℕ)) (r : Reply) → single_in words ≡ Some r → is_of_put r ≡ false
    → IsToldReply is_of_puts words r
puts_one words r h other =
    let told = one_told words r h in record {
      of_kind = not_put r told.of_kind other;
      ranges = told.ranges;
      words_are = told.words_are;
    }

-- nor is there another reply, where what was read of one thing is told of a put alone, or nothing was
pub single_of : (words : List (List ℕ)) (r : Reply) → is_of_one r ≡ true → IsToldReply is_of_puts words r
    → single_in words ≡ Some r
single_of words r one told =
    one_back words r (record { of_kind = one; ranges = told.ranges; words_are = told.words_are })

pub no_puts : (words : List (List ℕ)) → IsNoBatch (first_position words) words
    → ((r : Reply) → single_in words ≡ Some r → is_of_put r ≡ true) → NoneIsTold is_of_puts words
no_puts words none single (replies.Outs outs) told = no_batch words outs none told
no_puts words none single (replies.TookSome ns) told = let kind = told.of_kind in absurd cc
no_puts words none single r told =
    put_alone r refl told.of_kind (single r (single_of words r refl told))

-- ---- of steps of jobs

ran_parts : (o p : Option ℕ) (r : ScriptReply) → ran_by o p ≡ Some r
    → (n : ℕ) × (a : ℕ) × (o ≡ Some n) × (p ≡ Some a) × (said.Ran (record { number = n; answer = a }) ≡ r)
ran_parts None p r h = absurd cc
ran_parts (Some n) None r h = absurd cc
ran_parts (Some n) (Some a) r h = (n, a, refl, refl, cc)

ran_words : (ran : Ran) → ran.number < 2 ^ 64 → ran.answer < 2 ^ 64
    → words_of (script_reply_text (said.Ran ran)) ≡ codes "ran" ∷ decimal ran.number ∷ decimal ran.answer ∷ []
ran_words ran n_small a_small =
    text_words (Letters (codes "ran") ∷ Long ran.number ∷ Long ran.answer ∷ [])
    (rw (decimal_word ran.number n_small, decimal_word ran.answer a_small) refl)

ran_told : (words : List (List ℕ)) (r : ScriptReply) → ran_in words ≡ Some r
    → IsToldSo kinds.Jobs (codes "ran" ∷ words) r
ran_told [] r h = absurd cc
ran_told (n ∷ []) r h = absurd cc
ran_told (n ∷ a ∷ []) r h =
    let (m, b, m_is, b_is, same) = ran_parts (exact_below (2 ^ 64) n) (exact_below (2 ^ 64) a) r h in
    let (number_is, m_small) = exact_is_decimal (2 ^ 64) n m (omega arith) m_is in
    let (answer_is, b_small) = exact_is_decimal (2 ^ 64) a b (omega arith) b_is in
    said_as (codes "ran" ∷ decimal m ∷ decimal b ∷ []) (codes "ran" ∷ n ∷ a ∷ []) _ r
    (three (codes "ran") (codes "ran") n (decimal m) a (decimal b) refl number_is answer_is) same
    (record { of_kind = refl; ranges = (m_small, b_small); words_are = ran_words _ m_small b_small })
  where
    said_as : (words others : List (List ℕ)) (q s : ScriptReply) → others ≡ words → q ≡ s
        → IsToldSo kinds.Jobs words q → IsToldSo kinds.Jobs others s
    said_as words others q s w e told = rw (w, ← e) told
ran_told (n ∷ a ∷ other ∷ words) r h = absurd cc

refusal_told : (words : List (List ℕ)) (r : ScriptReply)
    → option_map (λ f. said.World (replies.Refused f)) (fault_in words) ≡ Some r
    → IsToldSo kinds.Jobs (codes "refused" ∷ words) r
refusal_told words r h = by (fault_in words) refl h
  where
    by : (o : Option Fault) → fault_in words ≡ o → option_map (λ f. said.World (replies.Refused f)) o ≡ Some r
        → IsToldSo kinds.Jobs (codes "refused" ∷ words) r
    by None is e = absurd cc
    by (Some f) is e =
        let same : said.World (replies.Refused f) ≡ r = cc in
        rw (← same) (record {
          of_kind = refl;
          ranges = tt;
          words_are = refused_words f ∙ ap (λ t. codes "refused" ∷ t) (sym (refusal_read words f is));
        })

said_told : (name : List ℕ) (words : List (List ℕ)) (r : ScriptReply) → said_in name words ≡ Some r
    → IsToldSo kinds.Jobs (name ∷ words) r
said_told name (word ∷ words) r h = absurd cc
said_told name [] r h =
    elim (chosen (bytes_eq name (codes "ok")) said.Registered r _ h) [
      | inl is ↦ rw (name_is name (codes "ok") is.0, ← is.1) (record { of_kind = refl; ranges = tt; words_are = refl })
      | inr other ↦
          elim (chosen (bytes_eq name (codes "used")) said.Used r _ other) [
            | inl is ↦
                rw (name_is name (codes "used") is.0, ← is.1) (record { of_kind = refl; ranges = tt; words_are = refl })
            | inr another ↦
                let (is, same) = chosen_only (bytes_eq name (codes "gone")) said.Gone r another in
                rw (name_is name (codes "gone") is, ← same) (record { of_kind = refl; ranges = tt; words_are = refl })
          ]
    ]

jobs_told : (words : List (List ℕ)) (r : ScriptReply) → jobs_in words ≡ Some r → IsToldSo kinds.Jobs words r
jobs_told [] r h = absurd cc
jobs_told (name ∷ words) r h =
    elim (split (bytes_eq name (codes "refused")) (option_map (λ f. said.World (replies.Refused f)) (fault_in words))
    _ r h) [
      | inl is ↦ rw (name_is name (codes "refused") is.0) (refusal_told words r is.1)
      | inr other ↦
          elim (split (bytes_eq name (codes "ran")) (ran_in words) _ r other) [
            | inl is ↦ rw (name_is name (codes "ran") is.0) (ran_told words r is.1)
            | inr another ↦ said_told name words r another
          ]
    ]

pub jobs_back : (words : List (List ℕ)) (r : ScriptReply) → IsToldSo kinds.Jobs words r → jobs_in words ≡ Some r
jobs_back words (said.World (replies.Refused f)) told =
    ap jobs_in (sym told.words_are ∙ refused_words f)
    ∙ ap (λ o. option_map (λ g. said.World (replies.Refused g)) o) (refusal_back f)
jobs_back words (said.Ran ran) told =
    ap jobs_in (sym told.words_are ∙ ran_words ran told.ranges.0 told.ranges.1)
    ∙ rw (
      decimal_is_exact (2 ^ 64) ran.number told.ranges.0 (omega arith),
      decimal_is_exact (2 ^ 64) ran.answer told.ranges.1 (omega arith),
    ) refl
jobs_back words said.Registered told = ap jobs_in (sym told.words_are)
jobs_back words said.Used told = ap jobs_in (sym told.words_are)
jobs_back words said.Gone told = ap jobs_in (sym told.words_are)
jobs_back words (said.World reply) told = let kind = told.of_kind in absurd cc

pub jobs_answer : (words : List (List ℕ)) (o : Option ScriptReply) → o ≡ jobs_in words
    → MatchOption o (NoneIsToldSo kinds.Jobs words) (λ r. IsToldSo kinds.Jobs words r)
jobs_answer words None h = λ r told. let some = jobs_back words r told in absurd cc
jobs_answer words (Some r) h = jobs_told words r (sym h)

-- ---- of a `puts`, where the first position is this

pub puts_batch_at : (words : List (List ℕ)) (k : ℕ) (outs : Outs) → k ≡ first_position words → k < 2 ^ 63
    → IsBatch k words outs → IsToldReply is_of_puts words (replies.Outs outs)
puts_batch_at words k outs at half h =
    puts_batch words outs (omega (arith, half, h.0)) (subst (λ (m : ℕ). IsBatch m words outs) at h)

pub puts_none : (words : List (List ℕ)) (k : ℕ) (o : Option Reply) → k ≡ first_position words → IsNoBatch k words
    → single_in words ≡ None → o ≡ None
    → MatchOption o (NoneIsTold is_of_puts words) (λ r. IsToldReply is_of_puts words r)
puts_none words k o at none single is =
    rw is
    (no_puts words (subst (λ (m : ℕ). IsNoBatch m words) at none) (λ r some. absurd (no_single r some)))
  where
    no_single : (r : Reply) → single_in words ≡ Some r → ⊥
    no_single r some = absurd cc

pub puts_put : (words : List (List ℕ)) (k : ℕ) (r : Reply) → k ≡ first_position words → IsNoBatch k words
    → single_in words ≡ Some r → is_of_put r ≡ true → NoneIsTold is_of_puts words
puts_put words k r at none single put =
    no_puts words (subst (λ (m : ℕ). IsNoBatch m words) at none) (λ q some. is_put q some)
  where
    is_put : (q : Reply) → single_in words ≡ Some q → is_of_put q ≡ true
    is_put q some = let same : r ≡ q = cc in rw (← same) put
