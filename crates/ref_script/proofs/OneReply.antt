-- The words of a line tell one reply to a step of a kind, but for what a reply's text doesn't tell.
use Rattle.ref_script.proofs.Common.{◌≡◌, ℕ, ◌+◌, ◌<◌, ◌^◌, true, false, List, [], ◌∷◌, length, Option, Some, None}
use Rattle.ref_script.proofs.Common.{refl, sym, ap, ◌∙◌, arith, subst, inl, inr, cases_Bool, codes, words_of}
use Rattle.ref_script.proofs.Common.{Bool, ◌++◌}
use Rattle.std.proofs.Common.{decimal, ◌⊎◌}
use Rattle.std.specs.List.{list_any}
use Rattle.ref_base.specs.Faults.{name_of, number_of}
use Rattle.ref_base.specs.Outs.{Outs, is_added}
use Rattle.ref_base.specs.declared.fault.Fault.TheVariants.{NoMemory}
use Rattle.ref_base.specs.declared.out.Done.{Done}
use Rattle.ref_base.specs.declared.out.Done.TheVariants as done
use Rattle.ref_base.specs.declared.reply.Reply.{Reply}
use Rattle.ref_base.specs.declared.reply.Reply.TheVariants as replies
use Rattle.ref_script.specs.ReplyKinds.{IsInRanges, IsToldReply, IsToldSo, is_batch_told, is_of_one, is_of_polls}
use Rattle.ref_script.specs.ReplyKinds.{is_of_puts}
use Rattle.ref_script.specs.ReplyReading.{batch_in, first_position, is_of_put, jobs_in, long_replies, polled_in}
use Rattle.ref_script.specs.ReplyReading.{exact_below, short_replies, single_in}
use Rattle.ref_script.specs.SameReplies.{IsSameReply}
use Rattle.ref_script.specs.ScriptSteps.{script_reply_text}
use Rattle.ref_script.specs.declared.reply_kind.ReplyKind.{ReplyKind}
use Rattle.ref_script.specs.declared.reply_kind.ReplyKind.TheVariants as kinds
use Rattle.ref_script.specs.declared.script_step.ScriptReply.{ScriptReply}
use Rattle.ref_script.specs.declared.script_step.ScriptReply.TheVariants as said
use Rattle.ref_script.proofs.OneReading.{some_is}
use Rattle.ref_script.proofs.ReadBack.{none_counted, single_back}
use Rattle.ref_script.proofs.ReplyAnswers.{batch_below, batch_words, done_back, first_back, jobs_back, one_back}
use Rattle.ref_script.proofs.ReplyAnswers.{polls_back, single_of}
use Rattle.ref_script.proofs.ToldBatches.{told_batch, told_cons}
use Rattle.ref_script.proofs.ToldReplies.{told_words}

-- ---- of a put of several

-- a batch, or a reply of one thing that isn't told of a put
puts_kind : (r : Reply) → is_of_puts r ≡ true
    → ((outs : Outs) × (r ≡ replies.Outs outs)) ⊎ ((is_of_one r ≡ true) × (is_of_put r ≡ false))
puts_kind (replies.Outs outs) kind = inl (outs, refl)
puts_kind (replies.TookSome ns) kind = absurd cc
puts_kind (replies.Added n) kind = absurd cc
puts_kind replies.Already kind = absurd cc
puts_kind replies.Closed kind = absurd cc
puts_kind (replies.Refused NoMemory) kind = absurd cc
puts_kind (replies.Refused fault) kind = inr (refl, refl)
puts_kind r kind = inr (refl, refl)

-- two batches of the same words
batches_alone : (words : List (List ℕ)) (one other : Outs) → IsToldReply is_of_puts words (replies.Outs one)
    → IsToldReply is_of_puts words (replies.Outs other)
    → IsSameReply (said.World (replies.Outs one)) (said.World (replies.Outs other))
batches_alone words one other told also =
    let same : one.done ≡ other.done =
    some_is (batch_in (first_position words) words) one.done other.done (done_back words one told)
    (done_back words other also) in
    elim (cases_Bool (list_any is_added one.done)) [
      | inl any ↦
          let before : one.before ≡ other.before =
          sym (first_back words one told any)
          ∙ first_back words other also (ap (list_any is_added) (sym same) ∙ any) in
          inl (same_batch one other before same)
      | inr none ↦ inr (record {
        before = one.before;
        other_before = other.before;
        done = one.done;
        none_added = none;
        one_is = refl;
        other_is = ap (λ (ds : List Done). batch_of other.before ds) (sym same);
      })
    ]
  where
    batch_of : ℕ → List Done → ScriptReply
    batch_of before ds = said.World (replies.Outs (record { before = before; done = ds }))

    same_batch : (one other : Outs) → one.before ≡ other.before → one.done ≡ other.done
        → batch_of one.before one.done ≡ batch_of other.before other.done
    same_batch one other before same =
        ap (λ (b : ℕ). batch_of b one.done) before ∙ ap (λ (ds : List Done). batch_of other.before ds) same

-- an item with a comma behind it is no reply of one thing
already_before : (w : List ℕ) (ws : List (List ℕ)) → single_in (codes "already," ∷ w ∷ ws) ≡ None
already_before w [] =
    rw (
      none_counted short_replies (codes "already,") (exact_below (2 ^ 32) w) (λ n. refl),
      none_counted long_replies (codes "already,") (exact_below (2 ^ 64) w) (λ n. refl),
    ) refl
already_before w (v ∷ ws) = refl

closed_before : (w : List ℕ) (ws : List (List ℕ)) → single_in (codes "closed," ∷ w ∷ ws) ≡ None
closed_before w [] =
    rw (
      none_counted short_replies (codes "closed,") (exact_below (2 ^ 32) w) (λ n. refl),
      none_counted long_replies (codes "closed,") (exact_below (2 ^ 64) w) (λ n. refl),
    ) refl
closed_before w (v ∷ ws) = refl

-- what is read of one thing in the words of a batch is told of a put
put_read : (put r : Reply) → IsInRanges put → is_of_one put ≡ true → is_of_put put ≡ true
    → single_in (told_words put) ≡ Some r → is_of_put r ≡ true
put_read put r ranges one is read =
    let same : put ≡ r = some_is (single_in (told_words put)) put r (single_back put ranges one) read in
    rw (← same) is

none_read : (o : Option Reply) (r : Reply) → o ≡ None → o ≡ Some r → ⊥
none_read o r none read = absurd cc

batch_is_put : (before : ℕ) (ds : List Done) (r : Reply) → is_batch_told ds ≡ true → before + length ds < 2 ^ 64
    → single_in (told_batch before ds) ≡ Some r → is_of_put r ≡ true
batch_is_put before [] r h few read = absurd cc
batch_is_put before (done.Added ∷ []) r h few read =
    put_read (replies.Added before) r (omega (arith, few)) refl refl read
batch_is_put before (done.Already ∷ []) r h few read = put_read replies.Already r tt refl refl read
batch_is_put before (done.Closed ∷ []) r h few read = put_read replies.Closed r tt refl refl read
batch_is_put before (done.Refused NoMemory ∷ []) r h few read =
    put_read (replies.Refused NoMemory) r tt refl refl read
batch_is_put before (done.Refused fault ∷ []) r h few read = absurd cc
batch_is_put before (done.Added ∷ e ∷ ds) r h few read =
    let (w, ws, more) = told_cons (before + 1) e ds in
    absurd (none_read _ r (ap (λ (t : List (List ℕ)). single_in (codes "added" ∷ (decimal before ++ 44 ∷ []) ∷ t)) more)
    read)
batch_is_put before (done.Already ∷ e ∷ ds) r h few read =
    let (w, ws, more) = told_cons before e ds in
    absurd (none_read _ r (ap (λ (t : List (List ℕ)). single_in (codes "already," ∷ t)) more ∙ already_before w ws)
    read)
batch_is_put before (done.Closed ∷ e ∷ ds) r h few read =
    let (w, ws, more) = told_cons before e ds in
    absurd (none_read _ r (ap (λ (t : List (List ℕ)). single_in (codes "closed," ∷ t)) more ∙ closed_before w ws) read)
batch_is_put before (done.Refused f ∷ e ∷ ds) r h few read =
    let (w, ws, more) = told_cons before e ds in
    absurd (none_read _ r
    (ap (λ (t : List (List ℕ)). single_in (codes "refused" ∷ decimal (number_of f) ∷ (name_of f ++ 44 ∷ []) ∷ t)) more)
    read)

-- a batch has the words of no reply that isn't told of a put
tells_no_other : (words : List (List ℕ)) (outs : Outs) (r : Reply) → IsToldReply is_of_puts words (replies.Outs outs)
    → IsToldReply is_of_puts words r → is_of_one r ≡ true → is_of_put r ≡ false → ⊥
tells_no_other words outs r told also one other =
    let read : single_in words ≡ Some r = single_of words r one also in
    let put : is_of_put r ≡ true =
    batch_is_put outs.before outs.done r told.of_kind (batch_below words outs told)
    (ap single_in (sym (batch_words words outs told)) ∙ read) in
    absurd cc

puts_alone : (words : List (List ℕ)) (r s : Reply) → IsToldReply is_of_puts words r → IsToldReply is_of_puts words s
    → IsSameReply (said.World r) (said.World s)
puts_alone words r s told also =
    elim (puts_kind r told.of_kind) [
      | inl is ↦
          elim (puts_kind s also.of_kind) [
            | inl too ↦
                subst (λ (q : Reply). IsSameReply (said.World q) (said.World s)) (sym is.1)
                (subst (λ (q : Reply). IsSameReply (said.World (replies.Outs is.0)) (said.World q)) (sym too.1)
                (batches_alone words is.0 too.0
                (subst (λ (q : Reply). IsToldReply is_of_puts words q) is.1 told)
                (subst (λ (q : Reply). IsToldReply is_of_puts words q) too.1 also)))
            | inr one ↦
                absurd (tells_no_other words is.0 s
                (subst (λ (q : Reply). IsToldReply is_of_puts words q) is.1 told) also one.0 one.1)
          ]
      | inr one ↦
          elim (puts_kind s also.of_kind) [
            | inl is ↦
                absurd (tells_no_other words is.0 r
                (subst (λ (q : Reply). IsToldReply is_of_puts words q) is.1 also) told one.0 one.1)
            | inr too ↦
                inl (ap (λ (q : Reply). said.World q)
                (some_is (single_in words) r s (single_of words r one.0 told) (single_of words s too.0 also)))
          ]
    ]

-- ---- of any step

-- as a reply of the world
as_told : (test : Reply → Bool) (words : List (List ℕ)) (r : Reply) → test r ≡ true → IsInRanges r
    → words_of (script_reply_text (said.World r)) ≡ words → IsToldReply test words r
as_told test words r kind ranges words_are = record { of_kind = kind; ranges = ranges; words_are = words_are }

-- replies of the same words to a step of one kind
pub reply_alone : (kind : ReplyKind) (words : List (List ℕ)) (one other : ScriptReply) → IsToldSo kind words one
    → IsToldSo kind words other → IsSameReply one other
reply_alone kinds.Jobs words one other told also =
    inl (some_is (jobs_in words) one other (jobs_back words one told) (jobs_back words other also))
reply_alone kinds.One words (said.World r) (said.World s) told also =
    inl (ap (λ (q : Reply). said.World q) (some_is (single_in words) r s
    (one_back words r (as_told is_of_one words r told.of_kind told.ranges told.words_are))
    (one_back words s (as_told is_of_one words s also.of_kind also.ranges also.words_are))))
reply_alone kinds.One words (said.World r) other told also = let kind = also.of_kind in absurd cc
reply_alone kinds.One words one other told also = let kind = told.of_kind in absurd cc
reply_alone kinds.Polls words (said.World r) (said.World s) told also =
    inl (ap (λ (q : Reply). said.World q) (some_is (polled_in words) r s
    (polls_back words r (as_told is_of_polls words r told.of_kind told.ranges told.words_are))
    (polls_back words s (as_told is_of_polls words s also.of_kind also.ranges also.words_are))))
reply_alone kinds.Polls words (said.World r) other told also = let kind = also.of_kind in absurd cc
reply_alone kinds.Polls words one other told also = let kind = told.of_kind in absurd cc
reply_alone kinds.Puts words (said.World r) (said.World s) told also =
    puts_alone words r s (as_told is_of_puts words r told.of_kind told.ranges told.words_are)
    (as_told is_of_puts words s also.of_kind also.ranges also.words_are)
reply_alone kinds.Puts words (said.World r) other told also = let kind = also.of_kind in absurd cc
reply_alone kinds.Puts words one other told also = let kind = told.of_kind in absurd cc
