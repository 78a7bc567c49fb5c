-- What a put of a batch has done so far, item by item.
use Rattle.std.proofs.Common.{◌≡◌, ℕ, suc, zero, ◌+◌, ◌<◌, ◌≤◌, Bool, true, false, refl, ap, ap₂, sym, ◌∙◌, arith}
use Rattle.std.proofs.Common.{List, [], ◌∷◌, ◌++◌, length, map, take, drop, append_assoc, Some}
use Rattle.std.proofs.lemmas.List.{map-append, length-append, length-drop, append-nil, take-append-drop, length-take-le}
use Rattle.std.proofs.Common.{subst, inl, inr, add-one, ◌-◌}
use Rattle.std.proofs.Math.Seq.{take-length, drop-append_seam, take-append_seam}
use Rattle.std.proofs.lemmas.Bool.{true≢false, false≢true, and_parts, eqb-true, cases_Bool}
use Rattle.ref_base.specs.Members.{first_of}
use Rattle.ref_base.specs.Outs.{is_refused}
use Rattle.ref_base.specs.QueueLists.{Lists}
use Rattle.ref_base.specs.declared.out.Done.{Done}
use Rattle.ref_base.specs.declared.out.Done.TheVariants.{Added, Already, Closed, Refused}
use Rattle.ref_queue.specs.QueueAnswers.{AnswersPoll}
use Rattle.ref_queue.specs.declared.queue.Polled.{Polled}
use Rattle.ref_queue.specs.declared.queue.Polled.TheVariants.{Took, Empty, Closed as Ended}
use Rattle.ref_base.specs.QueueBatches.{come_back, not_added, EndsBatch, after_one, after_each, Becomes, Become}
use Rattle.ref_base.specs.QueueBatches.{are_own}
use Rattle.ref_queue.specs.QueueBatches.{with_some_taken}

module _ {T : Type 0} where
  -- each of these was tried, and none was refused
  abbrev pub AllTried : List T → List Done → Type 0
  AllTried [] [] = Unit {0}
  AllTried [] (d ∷ ds) = ⊥
  AllTried (y ∷ ys) [] = ⊥
  AllTried (y ∷ ys) (d ∷ ds) = (is_refused d ≡ false) × AllTried ys ds

  pub tried_one_more : (ys : List T) (ds : List Done) (x : T) (d : Done) → AllTried ys ds → is_refused d ≡ false
      → AllTried (ys ++ x ∷ []) (ds ++ d ∷ [])
  tried_one_more [] [] x d all kept = (kept, tt)
  tried_one_more [] (e ∷ ds) x d all kept = absurd all
  tried_one_more (y ∷ ys) [] x d all kept = absurd all
  tried_one_more (y ∷ ys) (e ∷ ds) x d all kept = (all.0, tried_one_more ys ds x d all.1 kept)

  pub length-tried : (ys : List T) (ds : List Done) → AllTried ys ds → length ds ≡ length ys
  length-tried [] [] all = refl
  length-tried [] (e ∷ ds) all = absurd all
  length-tried (y ∷ ys) [] all = absurd all
  length-tried (y ∷ ys) (e ∷ ds) all = ap suc (length-tried ys ds all.1)

  pub ends_tried : (ys : List T) (ds : List Done) → AllTried ys ds → EndsBatch ys ds
  ends_tried [] [] all = tt
  ends_tried [] (e ∷ ds) all = absurd all
  ends_tried (y ∷ ys) [] all = absurd all
  ends_tried (y ∷ ys) (Added ∷ ds) all = ends_tried ys ds all.1
  ends_tried (y ∷ ys) (Already ∷ ds) all = ends_tried ys ds all.1
  ends_tried (y ∷ ys) (Closed ∷ ds) all = ends_tried ys ds all.1
  ends_tried (y ∷ ys) (Refused fault ∷ ds) all = absurd (true≢false all.0)

  pub ends_refused : (ys zs : List T) (ds : List Done) (x : T) (d : Done) → AllTried ys ds → is_refused d ≡ true
      → EndsBatch (ys ++ x ∷ zs) (ds ++ d ∷ [])
  ends_refused [] zs [] x Added all is = absurd (false≢true is)
  ends_refused [] zs [] x Already all is = absurd (false≢true is)
  ends_refused [] zs [] x Closed all is = absurd (false≢true is)
  ends_refused [] zs [] x (Refused fault) all is = refl
  ends_refused [] zs (e ∷ ds) x d all is = absurd all
  ends_refused (y ∷ ys) zs [] x d all is = absurd all
  ends_refused (y ∷ ys) zs (Added ∷ ds) x d all is = ends_refused ys zs ds x d all.1 is
  ends_refused (y ∷ ys) zs (Already ∷ ds) x d all is = ends_refused ys zs ds x d all.1 is
  ends_refused (y ∷ ys) zs (Closed ∷ ds) x d all is = ends_refused ys zs ds x d all.1 is
  ends_refused (y ∷ ys) zs (Refused fault ∷ ds) x d all is = absurd (true≢false all.0)

  pub not_added-one_more : (ys : List T) (ds : List Done) (x : T) (d : Done) → AllTried ys ds
      → not_added (ys ++ x ∷ []) (ds ++ d ∷ []) ≡ not_added ys ds ++ come_back x d
  not_added-one_more [] [] x d all = append-nil (come_back x d)
  not_added-one_more [] (e ∷ ds) x d all = absurd all
  not_added-one_more (y ∷ ys) [] x d all = absurd all
  not_added-one_more (y ∷ ys) (e ∷ ds) x d all =
      ap (λ ns. come_back y e ++ ns) (not_added-one_more ys ds x d all.1)
      ∙ sym (append_assoc (come_back y e) (not_added ys ds) (come_back x d))

  pub not_added-untried : (ys zs : List T) (ds : List Done) → length ds ≡ length ys
      → not_added (ys ++ zs) ds ≡ not_added ys ds ++ zs
  not_added-untried [] [] [] same = refl
  not_added-untried [] (z ∷ zs) [] same = refl
  not_added-untried [] zs (e ∷ ds) same = absurd (omega arith)
  not_added-untried (y ∷ ys) zs [] same = absurd (omega arith)
  not_added-untried (y ∷ ys) zs (e ∷ ds) same =
      ap (λ ns. come_back y e ++ ns) (not_added-untried ys zs ds (omega arith))
      ∙ sym (append_assoc (come_back y e) (not_added ys ds) zs)

  length-come_back : (x : T) (d : Done) → length (come_back x d) ≤ 1
  length-come_back x Added = omega arith
  length-come_back x Already = omega arith
  length-come_back x Closed = omega arith
  length-come_back x (Refused fault) = omega arith

  pub length-not_added : (ys : List T) (ds : List Done) → length (not_added ys ds) ≤ length ys
  length-not_added [] ds = omega arith
  length-not_added (y ∷ ys) [] = omega arith
  length-not_added (y ∷ ys) (d ∷ ds) =
      omega (arith, length-append (come_back y d) (not_added ys ds), length-come_back y d, length-not_added ys ds)

  pub after-one_more : (q : Lists T) (ys zs : List T) (ds : List Done) (x : T) (d : Done) → AllTried ys ds
      → after_each q (ys ++ x ∷ zs) (ds ++ d ∷ []) ≡ after_one (after_each q (ys ++ x ∷ zs) ds) x d
  after-one_more q [] [] [] x d all = refl
  after-one_more q [] (z ∷ zs) [] x d all = refl
  after-one_more q [] zs (e ∷ ds) x d all = absurd all
  after-one_more q (y ∷ ys) zs [] x d all = absurd all
  after-one_more q (y ∷ ys) zs (e ∷ ds) x d all = after-one_more (after_one q y e) ys zs ds x d all.1

  queue-one : (q : Lists T) (x : T) (d : Done) → (after_one q x d).queue ≡ q.queue
  queue-one q x Added = refl
  queue-one q x Already = refl
  queue-one q x Closed = refl
  queue-one q x (Refused fault) = refl

  pub queue-each : (q : Lists T) (xs : List T) (ds : List Done) → (after_each q xs ds).queue ≡ q.queue
  queue-each q [] ds = refl
  queue-each q (x ∷ xs) [] = refl
  queue-each q (x ∷ xs) (d ∷ ds) = queue-each (after_one q x d) xs ds ∙ queue-one q x d

  module _ (object_of queue_of : T → ℕ) where
    pub become-one_more : (q : Lists T) (ys zs : List T) (ds : List Done) (x : T) (d : Done) → AllTried ys ds
        → Become object_of queue_of q (ys ++ x ∷ zs) ds
        → Becomes object_of queue_of (after_each q (ys ++ x ∷ zs) ds) x d
        → Become object_of queue_of q (ys ++ x ∷ zs) (ds ++ d ∷ [])
    become-one_more q [] zs [] x d all before one = (one, tt)
    become-one_more q [] zs (e ∷ ds) x d all before one = absurd all
    become-one_more q (y ∷ ys) zs [] x d all before one = absurd all
    become-one_more q (y ∷ ys) zs (e ∷ ds) x d all before one =
        (before.0, become-one_more (after_one q y e) ys zs ds x d all.1 before.1 one)

    pub own-at : (q : Lists T) (ys zs : List T) (x : T) → are_own object_of queue_of q (ys ++ x ∷ zs) ≡ true
        → queue_of x ≡ q.queue
    own-at q [] zs x own = eqb-true (queue_of x) q.queue (and_parts _ _ own).0
    own-at q (y ∷ ys) zs x own = own-at q ys zs x (and_parts _ _ own).1

-- an entry of a list, and what stands in front of it and behind
pub split_at : {T : Type 0} (xs : List T) (k : ℕ) → k < length xs
    → (x : T) × (take (suc k) xs ≡ take k xs ++ x ∷ []) × (drop k xs ≡ x ∷ drop (suc k) xs)
split_at [] k within = absurd (omega arith)
split_at (x ∷ xs) zero within = (x, refl, refl)
split_at (x ∷ xs) (suc k) within =
    let rest = split_at xs k (omega arith) in
    (rest.0, ap (λ ys. x ∷ ys) rest.1, rest.2)

after-none : {T : Type 0} (q : Lists T) (xs : List T) → after_each q xs [] ≡ q
after-none q [] = refl
after-none q (x ∷ xs) = refl

module _ {T : Type 0} (object_of queue_of : T → ℕ) (q : Lists T) (xs : List T) where
  -- how far a put of the items xs has come in its kth round: these became that, and the others weren't tried
  pub record IsAt (k : ℕ) (now : Lists T) (batch : List T) (ds : List Done) (refused : Bool) : Type 0 where
    pub left : batch ≡ drop (length ds) xs ++ not_added (take (length ds) xs) ds
    pub after : now ≡ after_each q xs ds
    pub done : Become object_of queue_of q xs ds
    pub going : refused ≡ false → (length ds ≡ k) × AllTried (take k xs) ds
    pub over : refused ≡ true → EndsBatch xs ds × (length ds ≤ k)

  pub at_first : IsAt 0 q xs [] false
  at_first = record {
    left = sym (append-nil xs);
    after = sym (after-none q xs);
    done = tt;
    going = λ is. (refl, tt);
    over = λ is. absurd (false≢true is);
  }

  module _ {k : ℕ} {now : Lists T} {batch : List T} {ds : List Done} {refused : Bool}
      (so_far : IsAt k now batch ds refused) where
    -- once an item was refused, nothing is done any more
    pub over_next : refused ≡ true → IsAt (suc k) now batch ds refused
    over_next is = record {
      left = so_far.left;
      after = so_far.after;
      done = so_far.done;
      going = λ isn't. absurd (true≢false (sym is ∙ isn't));
      over = λ is. ((so_far.over is).0, omega (arith, (so_far.over is).1));
    }

  module _ {k : ℕ} {now : Lists T} {batch : List T} {ds : List Done} {refused : Bool} (within : k < length xs)
      (so_far : IsAt k now batch ds refused) (going : refused ≡ false) where
    left_now : batch ≡ drop k xs ++ not_added (take k xs) ds
    left_now =
        so_far.left ∙ ap (λ n. drop n xs ++ not_added (take n xs) ds) (so_far.going going).0

    -- the batch isn't empty
    pub some_next : (x : T) × (first_of batch ≡ Some x)
    some_next =
        let split = split_at xs k within in (
          split.0,
          ap first_of left_now ∙ ap (λ ys. first_of (ys ++ not_added (take k xs) ds)) split.2,
        )

    module _ {item : T} (first : first_of batch ≡ Some item) where
      -- the item that is tried next
      is_next : (take (suc k) xs ≡ take k xs ++ item ∷ []) × (drop k xs ≡ item ∷ drop (suc k) xs)
      is_next =
          let split = split_at xs k within in
          let is : Some split.0 ≡ Some item =
          sym (ap first_of left_now ∙ ap (λ ys. first_of (ys ++ not_added (take k xs) ds)) split.2) ∙ first in
          let same : split.0 ≡ item = cc in (
            split.1 ∙ ap (λ x. take k xs ++ x ∷ []) same,
            split.2 ∙ ap (λ x. x ∷ drop (suc k) xs) same,
          )

      all_is : xs ≡ take k xs ++ item ∷ drop (suc k) xs
      all_is = sym (take-append-drop k xs) ∙ ap (λ ys. take k xs ++ ys) is_next.1

      rest_is : drop 1 batch ≡ drop (suc k) xs ++ not_added (take k xs) ds
      rest_is = ap (drop 1) left_now ∙ ap (λ ys. drop 1 (ys ++ not_added (take k xs) ds)) is_next.1

      pub own_next : are_own object_of queue_of q xs ≡ true → queue_of item ≡ now.queue
      own_next own =
          own-at object_of queue_of q (take k xs) (drop (suc k) xs) item
          (sym (ap (are_own object_of queue_of q) all_is) ∙ own)
          ∙ sym (ap (λ (l : Lists T). l.queue) so_far.after ∙ queue-each q xs ds)

      pub room_next : length xs ≤ 32 → length (drop 1 batch) < 32
      room_next few =
          let whole : length xs ≡ length (take k xs) + suc (length (drop (suc k) xs)) =
          ap length all_is ∙ length-append (take k xs) (item ∷ drop (suc k) xs) in
          let rest : length (drop 1 batch) ≡ length (drop (suc k) xs) + length (not_added (take k xs) ds) =
          ap length rest_is ∙ length-append (drop (suc k) xs) (not_added (take k xs) ds) in
          omega (arith, whole, rest, length-not_added (take k xs) ds)

      pub tried_next : (d : Done) → Becomes object_of queue_of now item d
          → IsAt (suc k) (after_one now item d) (drop 1 batch ++ come_back item d) (ds ++ d ∷ []) (is_refused d)
      tried_next d becomes =
          let tried : AllTried (take k xs) ds = (so_far.going going).1 in
          let longer : length (ds ++ d ∷ []) ≡ suc k =
          length-append ds (d ∷ []) ∙ ap (λ n. n + 1) (so_far.going going).0 ∙ add-one k in
          let shown : now ≡ after_each q (take k xs ++ item ∷ drop (suc k) xs) ds =
          so_far.after ∙ ap (λ ys. after_each q ys ds) all_is in
          record {
            left =
                ap (λ ys. ys ++ come_back item d) rest_is
                ∙ append_assoc (drop (suc k) xs) (not_added (take k xs) ds) (come_back item d)
                ∙ ap (λ ys. drop (suc k) xs ++ ys)
                (sym (ap (λ ys. not_added ys (ds ++ d ∷ [])) is_next.0
                ∙ not_added-one_more (take k xs) ds item d tried))
                ∙ ap (λ n. drop n xs ++ not_added (take n xs) (ds ++ d ∷ [])) (sym longer);
            after =
                ap (λ l. after_one l item d) shown
                ∙ sym (after-one_more q (take k xs) (drop (suc k) xs) ds item d tried)
                ∙ sym (ap (λ ys. after_each q ys (ds ++ d ∷ [])) all_is);
            done =
                subst (λ ys. Become object_of queue_of q ys (ds ++ d ∷ [])) (sym all_is)
                (become-one_more object_of queue_of q (take k xs) (drop (suc k) xs) ds item d tried
                (subst (λ ys. Become object_of queue_of q ys ds) all_is so_far.done)
                (subst (λ l. Becomes object_of queue_of l item d) shown becomes));
            going = λ kept. (
              longer,
              subst (λ ys. AllTried ys (ds ++ d ∷ [])) (sym is_next.0)
                  (tried_one_more (take k xs) ds item d tried kept),
            );
            over = λ is. (
              subst (λ ys. EndsBatch ys (ds ++ d ∷ [])) (sym all_is)
                  (ends_refused (take k xs) (drop (suc k) xs) ds item d tried is),
              omega (arith, longer),
            );
          }

  -- all rounds are over: what wasn't tried is turned behind what came back
  module _ {now : Lists T} {batch : List T} {ds : List Done} {refused : Bool}
      (so_far : IsAt (length xs) now batch ds refused) where
    pub ends_at : EndsBatch xs ds
    ends_at =
        elim (cases_Bool refused) [
          | inl is ↦ (so_far.over is).0
          | inr is ↦
              subst (λ ys. EndsBatch ys ds) (take-length xs)
              (ends_tried (take (length xs) xs) ds (so_far.going is).1)
        ]

    pub few_at : length ds ≤ length xs
    few_at =
        elim (cases_Bool refused) [
          | inl is ↦ (so_far.over is).1
          | inr is ↦ omega (arith, (so_far.going is).0)
        ]

    untried : length (drop (length ds) xs) ≡ length xs - length ds
    untried = length-drop (length ds) xs

    pub room_at : length xs - length ds ≤ length batch
    room_at =
        omega (
          arith,
          ap length so_far.left
              ∙ length-append (drop (length ds) xs) (not_added (take (length ds) xs) ds),
          untried,
        )

    pub left_at : drop (length xs - length ds) batch ++ take (length xs - length ds) batch ≡ not_added xs ds
    left_at =
        let front : List T = drop (length ds) xs in
        let back : List T = not_added (take (length ds) xs) ds in
        ap (λ n. drop n batch ++ take n batch) (sym untried)
        ∙ ap (λ ys. drop (length front) ys ++ take (length front) ys) so_far.left
        ∙ ap₂ (λ (ys zs : List T). ys ++ zs) (drop-append_seam front back) (take-append_seam front back)
        ∙ sym (not_added-untried (take (length ds) xs) front ds (sym (length-take-le (length ds) xs few_at)))
        ∙ ap (λ ys. not_added ys ds) (take-append-drop (length ds) xs)

-- ---- a poll of several

-- a poll that takes nothing finds nothing, and leaves all as it was
pub nothing_stands : {T : Type 0} (object_of : T → ℕ) (q r : Lists T) (reply : Polled T)
    → AnswersPoll object_of q reply r → ((x : T) → reply ≡ Took x → ⊥) → (q.stands ≡ []) × (r ≡ q)
nothing_stands object_of q r (Took x) answer not = absurd (not x refl)
nothing_stands object_of q r Empty answer not = (answer.0, answer.2)
nothing_stands object_of q r Ended answer not = (answer.0, answer.2)

-- the first that is left of a list, and what is left behind it
step_of : {T : Type 0} (xs : List T) (k : ℕ) {x : T} {rest : List T} → drop k xs ≡ x ∷ rest
    → (take (suc k) xs ≡ take k xs ++ x ∷ []) × (drop (suc k) xs ≡ rest)
step_of [] zero first = absurd (cc)
step_of [] (suc k) first = absurd (cc)
step_of (y ∷ ys) zero {x} {rest} first =
    let same : y ≡ x = cc in
    let behind : ys ≡ rest = cc in
    (ap (λ z. z ∷ []) same, behind)
step_of (y ∷ ys) (suc k) first = let further = step_of ys k first in (ap (λ zs. y ∷ zs) further.0, further.1)

none_of : {T : Type 0} (xs : List T) (k : ℕ) → drop k xs ≡ []
    → (take (suc k) xs ≡ take k xs) × (drop (suc k) xs ≡ [])
none_of [] zero none = (refl, refl)
none_of [] (suc k) none = (refl, refl)
none_of (y ∷ ys) zero none = absurd (cc)
none_of (y ∷ ys) (suc k) none = let further = none_of ys k none in (ap (λ zs. y ∷ zs) further.0, further.1)

module _ {T : Type 0} (object_of : T → ℕ) (q : Lists T) (k : ℕ) where
  -- one more is taken
  module _ {x : T} {r : Lists T} (took : AnswersPoll object_of (with_some_taken object_of q k) (Took x) r) where
    pub one_more_taken : take (suc k) q.stands ≡ take k q.stands ++ x ∷ []
    one_more_taken = (step_of q.stands k took.0).0

    pub after_one_more : r ≡ with_some_taken object_of q (suc k)
    after_one_more =
        let numbers : (q.taken ++ map object_of (take k q.stands)) ++ object_of x ∷ []
        ≡ q.taken ++ map object_of (take (suc k) q.stands) =
        append_assoc q.taken (map object_of (take k q.stands)) (object_of x ∷ [])
        ∙ ap (λ ns. q.taken ++ ns)
        (sym (map-append object_of (take k q.stands) (x ∷ [])) ∙ sym (ap (map object_of) one_more_taken)) in
        took.1
        ∙ ap₂ (λ (ns : List ℕ) (xs : List T). record q { taken = ns; stands = xs }) numbers
        (sym (step_of q.stands k took.0).1)

  -- nothing is left to take
  module _ (none : drop k q.stands ≡ []) where
    pub none_more_taken : take (suc k) q.stands ≡ take k q.stands
    none_more_taken = (none_of q.stands k none).0

    pub after_none_more : with_some_taken object_of q k ≡ with_some_taken object_of q (suc k)
    after_none_more =
        ap₂ (λ (ns : List ℕ) (xs : List T). record q { taken = ns; stands = xs })
        (ap (λ xs. q.taken ++ map object_of xs) (sym none_more_taken))
        (none ∙ sym (none_of q.stands k none).1)
