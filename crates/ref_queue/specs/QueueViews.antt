-- What a contract sees of a queue's fields, and what holds of them.
use Rattle.std.specs.Prelude.{◌≡◌, ℕ, ◌-◌, Bool, refl, List, ◌++◌, length, map, take}
use Rattle.std.specs.Coded.{Coded, code_by, coded×, coded_ℕ, coded_bool, coded_list}
use Rattle.std.specs.List.{AllByRecursion}
use Rattle.ref_base.specs.QueueLists.{Lists}

-- the lists are stored as the tuple of their fields
abbrev pub lists_code : {T : Type 0} → Coded T → Coded (Lists T)
lists_code {T} code =
    code_by
    (ℕ × (List ℕ × (List T × Bool)))
    (coded× coded_ℕ (coded× (coded_list coded_ℕ) (coded× (coded_list code) coded_bool)))
    (λ q. (q.queue, (q.taken, (q.stands, q.closed))))
    (λ p. record { queue = p.0; taken = p.1.0; stands = p.1.1.0; closed = p.1.1.1 })
    (λ _. refl)

module _ {T : Type 0} where
  -- the numbers that are left of ns where one for each of xs is taken off the end
  abbrev pub front : List ℕ → List T → List ℕ
  front ns xs = take (length ns - length xs) ns

  -- what a contract sees of a queue's fields: its number, all numbers put in, what stands, whether it is closed
  abbrev pub seen_queue : ℕ → List ℕ → List T → Bool → Lists T
  seen_queue queue ns xs closed = record { queue = queue; taken = front ns xs; stands = xs; closed = closed }

  module _ (object_of queue_of : T → ℕ) where
    -- what holds of a queue's fields: its number, the numbers of everything that was put in, and what stands
    pub record IsSoundQueue (queue : ℕ) (ns : List ℕ) (xs : List T) : Type 0 where
      pub order : front ns xs ++ map object_of xs ≡ ns
      pub own : AllByRecursion (λ x. queue_of x ≡ queue) xs
