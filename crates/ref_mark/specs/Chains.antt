-- A list of objects as a chain: its first and its last, where each of its objects but the last links to the next.
use Rattle.std.specs.Prelude.{◌≡◌, ℕ, zero, suc, Bool, true, false, ◌==◌, if◌then◌else◌, List, [], ◌∷◌}
use Rattle.std.specs.Prelude.{map, Option, Some, None}
use Rattle.ref_base.specs.Members.{has}
use Rattle.ref_base.specs.Refusals.{is_empty}
use Rattle.ref_space.specs.Tables.{Tag}
use Rattle.ref_objects.specs.Grounds.{Ground, link_at, with_link, ground_looked_at}
use Rattle.ref_mark.specs.declared.chain.Chain.{Chain}

abbrev pub no_chain : Chain
no_chain = record { first = 0; last = 0 }

abbrev pub chain_first : Chain → Option ℕ
chain_first c = if c.first == 0 then None else Some c.first

-- what stands behind n in a chain of this last one: behind that nothing does, whatever it links to
abbrev pub next_of : List Tag → ℕ → ℕ → ℕ
next_of ts last n = if n == last then 0 else link_at ts n

-- the numbers that links lead through from n on to the last, at most so many
abbrev pub walk : List Tag → ℕ → ℕ → ℕ → List ℕ
walk ts last zero n = []
walk ts last (suc most) n = if n == 0 then [] else n ∷ walk ts last most (next_of ts last n)

-- the list that a chain is
abbrev pub listed : List Tag → ℕ → Chain → List ℕ
listed ts most c = walk ts c.last most c.first

abbrev pub lists_of : List Tag → ℕ → List Chain → List (List ℕ)
lists_of ts most [] = []
lists_of ts most (c ∷ cs) = listed ts most c ∷ lists_of ts most cs

-- ---- what is changed

-- n is the last of the chain
abbrev pub chain_with : Chain → ℕ → Chain
chain_with c n = record { first = if c.first == 0 then n else c.first; last = n }

-- and the link that this takes: what was the last links to n
abbrev pub linked_last : List Tag → Chain → ℕ → List Tag
linked_last ts c n = if c.first == 0 then ts else with_link ts c.last n

-- the first goes, which links to this
abbrev pub chain_from : Chain → ℕ → Chain
chain_from c link = record c { first = if c.first == c.last then 0 else link }

abbrev pub chain_without_first : List Tag → Chain → Chain
chain_without_first ts c = if c.first == 0 then c else chain_from c (link_at ts c.first)

-- the first of a chain is looked at, if there is one
abbrev pub first_looked_at : Ground → Option ℕ → ℕ → Ground
first_looked_at g None cycle = g
first_looked_at g (Some n) cycle = ground_looked_at g n cycle

-- ---- the same, told of the list that a chain is

-- the last of these numbers, or 0
abbrev pub last_of : List ℕ → ℕ
last_of [] = 0
last_of (m ∷ []) = m
last_of (m ∷ k ∷ ms) = last_of (k ∷ ms)

-- the links as n goes last in this list
abbrev pub linked_last_of : List Tag → List ℕ → ℕ → List Tag
linked_last_of ts ms n = if is_empty ms then ts else with_link ts (last_of ms) n

-- ---- what holds

-- whether object n has a tag
abbrev pub is_tagged : List Tag → ℕ → Bool
is_tagged ts n = has (map (λ t. t.no) ts) n

-- links lead from n through these numbers, each that of an object, to the end
abbrev pub Links : List Tag → ℕ → ℕ → List ℕ → Type 0
Links ts last n [] = n ≡ 0
Links ts last n (m ∷ ms) =
    (n ≡ m) × ((m == 0) ≡ false) × (is_tagged ts m ≡ true) × Links ts last (next_of ts last m) ms

-- last is the last of these numbers, if there are any
abbrev pub Ends : ℕ → List ℕ → Type 0
Ends last [] = Unit {0}
Ends last (m ∷ []) = last ≡ m
Ends last (m ∷ k ∷ ms) = Ends last (k ∷ ms)

pub record IsChain (ts : List Tag) (most : ℕ) (c : Chain) : Type 0 where
  pub leads : Links ts c.last c.first (listed ts most c)
  pub ends : Ends c.last (listed ts most c)

abbrev pub AreChains : List Tag → ℕ → List Chain → Type 0
AreChains ts most [] = Unit {0}
AreChains ts most (c ∷ cs) = IsChain ts most c × AreChains ts most cs
