-- Calls of a seat, one after the other; and polls that found nothing, until one answers.
use Rattle.ref_share.proofs.Common.{◌≡◌, ℕ, zero, suc, List, [], ◌∷◌, ◌++◌, refl, ap, ◌∙◌, subst, replicate, None}
use Rattle.ref_share.proofs.Common.{append_assoc, entry, Extends, Longer, Entry, View, empty_polls, QueueView}
use Rattle.ref_share.proofs.Common.{QueueEntry, Made}
use Rattle.std.proofs.Common.{rules}
use Rattle.ref_share.specs.QueueCalls.{PollsOnce, polled}
use Rattle.ref_queue.specs.declared.queue.Polled.TheVariants as answers
use Rattle.ref_share.specs.declared.queue_machine.QueueStep.TheVariants as steps
use Rattle.ref_share.specs.declared.queue_machine.QueueReply.TheVariants as replies

-- what is in front of two lists is in front of their first
in_front : {T : Type 0} (xs ys zs us vs : List T) → us ≡ xs ++ ys → vs ≡ us ++ zs → vs ≡ xs ++ (ys ++ zs)
in_front {T = T} xs ys zs us vs first second =
    second ∙ ap (λ (ts : List T). ts ++ zs) first ∙ append_assoc xs ys zs

-- one entry more of the same
one_more : {T : Type 0} (k : ℕ) (e : T) → replicate k e ++ e ∷ [] ≡ replicate (suc k) e
one_more zero e = refl
one_more {T = T} (suc k) e = ap (λ (es : List T). e ∷ es) (one_more k e)

module _ {M S R : Type 0} where
  pub made_none : (v : View M S R) → Made v [] v
  made_none v = ((refl, refl, refl), ([], search rules), search rules)

  pub made_longer : (v u w : View M S R) (calls : List (Entry S R)) → Made v calls u → Longer u w → Made v calls w
  made_longer v u w calls made longer = search (in_front v.seen made.1.0 longer.1.0 u.seen w.seen made.1.1 longer.1.1)

  pub made_after : (v u w : View M S R) (calls more : List (Entry S R)) → Made v calls u → Made u more w
      → Made v (calls ++ more) w
  made_after v u w calls more first second =
      search (in_front, in_front v.seen first.1.0 second.1.0 u.seen w.seen first.1.1 second.1.1)

  pub made_more : (v u w : View M S R) (calls : List (Entry S R)) (step : S) (reply : R) → Made v calls u
      → Extends u (entry u.number step reply) w → Made v (calls ++ entry v.number step reply ∷ []) w
  made_more v u w calls step reply made extends =
      let e = entry u.number step reply in
      let own = ap (λ (n : ℕ). calls ++ entry n step reply ∷ []) made.0.0 in
      let seen = in_front u.seen extends.1.0 (e ∷ []) (u.seen ++ extends.1.0) w.seen refl extends.1.1 in (
        (extends.0.0 ∙ made.0.0, extends.0.1 ∙ made.0.1, extends.0.2 ∙ made.0.2),
        (
          made.1.0 ++ (extends.1.0 ++ e ∷ []),
          in_front v.seen made.1.0 (extends.1.0 ++ e ∷ []) u.seen w.seen made.1.1 seen,
        ),
        in_front v.mine calls (e ∷ []) u.mine w.mine made.2 extends.2
            ∙ ap (λ (es : List (Entry S R)). v.mine ++ es) own,
      )

module _ (v u w : QueueView) (k : ℕ) (made : Made v (empty_polls v k) u) where
  -- one more poll that found nothing
  pub one_more_empty : PollsOnce u None w → Made v (empty_polls v (suc k)) w
  one_more_empty polls =
      subst (λ (calls : List QueueEntry). Made v calls w) (one_more k (polled v answers.Empty))
      (made_more v u w (empty_polls v k) steps.Poll (replies.Polled answers.Empty) made polls)
