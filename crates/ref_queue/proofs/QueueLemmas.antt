-- What a queue's fields say of the lists that its contracts see.
use Rattle.std.proofs.Common.{◌≡◌, ℕ, Bool, true, false, refl, ap, sym, ◌∙◌, arith, List, [], ◌∷◌, ◌++◌, length}
use Rattle.std.proofs.Common.{map, append_assoc, length-append}
use Rattle.std.proofs.lemmas.List.{take_at, length-map}
use Rattle.ref_queue.specs.QueueViews.{front, seen_queue, IsSoundQueue}
use Rattle.ref_queue.specs.QueueAnswers.{AnswersPoll}
use Rattle.ref_queue.specs.declared.queue.Polled.TheVariants.{Took, Empty, Closed}

-- a list of length 0 is empty
pub nil_from_length : {T : Type 0} (xs : List T) → length xs ≡ 0 → xs ≡ []
nil_from_length [] none = refl
nil_from_length (x ∷ xs) none = absurd (omega arith)

module _ {T : Type 0} (object_of : T → ℕ) where
  -- the front of a list that ends in the numbers of xs is what comes before them
  pub front-append : (ns : List ℕ) (xs : List T) → front (ns ++ map object_of xs) xs ≡ ns
  front-append ns xs =
      take_at ns (map object_of xs) _ (omega (arith, length-append ns (map object_of xs), length-map xs object_of))

  -- as the first of what stands is taken, its number joins the front
  pub front-tail : (ns : List ℕ) (xs : List T) (x : T) (rest : List T) → xs ≡ x ∷ rest
      → front ns xs ++ map object_of xs ≡ ns → front ns rest ≡ front ns xs ++ object_of x ∷ []
  front-tail ns xs x rest first order =
      let before : List ℕ = front ns xs in
      let split : ns ≡ (before ++ object_of x ∷ []) ++ map object_of rest =
      sym order ∙ ap (λ ys. before ++ map object_of ys) first
      ∙ sym (append_assoc before (object_of x ∷ []) (map object_of rest)) in
      ap (λ ms. front ms rest) split ∙ front-append (before ++ object_of x ∷ []) rest

module _ {T : Type 0} {object_of queue_of : T → ℕ} {queue : ℕ} {ns : List ℕ} {xs : List T}
    (sound : IsSoundQueue object_of queue_of queue ns xs) where
  module _ {closed : Bool} {rest : List T} where
    -- a poll where something stands
    pub Polls-Took : {x : T} → xs ≡ x ∷ rest
        → AnswersPoll object_of (seen_queue queue ns xs closed) (Took x) (seen_queue queue ns rest closed)
    Polls-Took {x} first = grind (arith, front-tail)

    -- a poll of a closed queue where nothing stands
    pub Polls-Closed : length xs ≡ 0 → xs ≡ rest → closed ≡ true
        → AnswersPoll object_of (seen_queue queue ns xs closed) Closed (seen_queue queue ns rest closed)
    Polls-Closed none same shut = (nil_from_length xs none, shut, ap (λ ys. seen_queue queue ns ys closed) (sym same))

    -- a poll of an open queue where nothing stands
    pub Polls-Empty : length xs ≡ 0 → xs ≡ rest → closed ≡ false
        → AnswersPoll object_of (seen_queue queue ns xs closed) Empty (seen_queue queue ns rest closed)
    Polls-Empty none same open_yet =
        (nil_from_length xs none, open_yet, ap (λ ys. seen_queue queue ns ys closed) (sym same))
