-- A chain as a list: one more at its end, its first taken, and links that are written elsewhere.
use Rattle.ref_mark.proofs.Common.{◌≡◌, ℕ, zero, suc, ◌+◌, ◌<◌, ◌≤◌, Bool, true, false, ◌==◌, ◌||◌, refl, sym, ap}
use Rattle.ref_mark.proofs.Common.{subst, ◌∙◌, arith, List, [], ◌∷◌, ◌++◌, length, map, get_or, set, inl, inr}
use Rattle.ref_mark.proofs.Common.{length-append, Option, Some, None, if◌then◌else◌, option_map, drop_all, listed_at}
use Rattle.ref_mark.proofs.Common.{cases_Bool, eq-eqb, or_right, or_parts, true≢false, has, AreDistinct, joined}
use Rattle.ref_mark.proofs.Common.{list_at, is_empty, first_in, Chain, rest_of, Ground, Tag, link_at, with_link}
use Rattle.ref_mark.proofs.Common.{with_new_tag, look_of, no_chain, walk, listed, lists_of, chain_with, linked_last}
use Rattle.ref_mark.proofs.Common.{chain_without_first, linked_last_of, chain_first, is_tagged, AreChains}
use Rattle.ref_objects.specs.Grounds.{linked_in}
use Rattle.ref_space.specs.declared.linked.Linked.{Linked}
use Rattle.ref_space.specs.declared.linked.Look.{Look}
use Rattle.ref_mark.specs.Chains.{next_of, last_of, Links, Ends, IsChain}
use Rattle.ref_base.proofs.HasLaws.{has-first, has-append}
use Rattle.ref_mark.proofs.DistinctLists.{lacks-parts, distinct-left, distinct-right, distinct-apart, has-other}
use Rattle.ref_mark.proofs.LinkLemmas.{link_at-other, link_at-same, is_tagged-written, link_at-new, is_tagged-new}

-- ---- one chain

-- the links of these numbers are as they were
abbrev pub IsSame : List Tag → List Tag → List ℕ → Type 0
IsSame ts us ms =
    (m : ℕ) → has ms m ≡ true → is_tagged ts m ≡ true → (link_at us m ≡ link_at ts m) × (is_tagged us m ≡ true)

pub Links-same : (ts us : List Tag) (last n : ℕ) (ms : List ℕ) → IsSame ts us ms → Links ts last n ms
    → Links us last n ms
Links-same ts us last n [] same leads = leads
Links-same ts us last n (m ∷ ms) same leads =
    let own = same m (has-first m ms) leads.2 in
    let next : next_of us last m ≡ next_of ts last m = ap (λ k. if m == last then 0 else k) own.0 in
    let later : IsSame ts us ms = λ k within there. same k (simp within (or-true (m == k))) there in (
      leads.0,
      leads.1,
      own.1,
      subst (λ k. Links us last k ms) (sym next) (Links-same ts us last (next_of ts last m) ms later leads.3),
    )
  where
    or-true : (b : Bool) → (b || true) ≡ true
    or-true true = refl
    or-true false = refl

-- so many links lead through a list that is no longer
pub walk-leads : (ts : List Tag) (last most n : ℕ) (ms : List ℕ) → Links ts last n ms → length ms ≤ most
    → walk ts last most n ≡ ms
walk-leads ts last zero n [] leads few = refl
walk-leads ts last zero n (m ∷ ms) leads few = absurd (omega arith)
walk-leads ts last (suc most) n [] leads few = simp (eq-eqb n 0 leads) refl
walk-leads ts last (suc most) n (m ∷ ms) leads few = grind (arith, walk-leads ts last most)

pub length-walk : (ts : List Tag) (last most n : ℕ) → length (walk ts last most n) ≤ most
length-walk ts last zero n = omega arith
length-walk ts last (suc most) n = grind (arith, length-walk ts last most)

pub walk-none : (ts : List Tag) (last most n : ℕ) → (n == 0) ≡ true → walk ts last most n ≡ []
walk-none ts last zero n none = refl
walk-none ts last (suc most) n none = simp none refl

-- links that are written elsewhere change no chain
pub chain-same : (ts us : List Tag) (most : ℕ) (c : Chain) → IsChain ts most c → IsSame ts us (listed ts most c)
    → (listed us most c ≡ listed ts most c) × IsChain us most c
chain-same ts us most c chain same = grind (arith, walk-leads, length-walk, Links-same ts us c.last c.first)

Ends-has : (last m : ℕ) (ms : List ℕ) → Ends last (m ∷ ms) → has (m ∷ ms) last ≡ true
Ends-has last m [] ends = subst (λ k. has (m ∷ []) k ≡ true) (sym ends) (has-first m [])
Ends-has last m (k ∷ ms) ends =
    let later : has (k ∷ ms) last ≡ true = Ends-has last k ms ends in or_right (m == last) (has (k ∷ ms) last) later

Ends-push : (n : ℕ) (ms : List ℕ) → Ends n (ms ++ n ∷ [])
Ends-push n [] = refl
Ends-push n (m ∷ []) = refl
Ends-push n (m ∷ k ∷ ms) = Ends-push n (k ∷ ms)

-- the last links to n, which is the last then
Links-push : (ts : List Tag) (a last n m : ℕ) (ms : List ℕ) → Links ts last a (m ∷ ms) → Ends last (m ∷ ms)
    → AreDistinct (m ∷ ms) → has (m ∷ ms) n ≡ false → (n == 0) ≡ false → is_tagged ts n ≡ true
    → Links (with_link ts last n) n a ((m ∷ ms) ++ n ∷ [])
Links-push ts a last n m [] leads ends distinct lacks some there =
    let other : (m == n) ≡ false = (or_parts (m == n) false lacks).0 in
    let link : link_at (with_link ts last n) m ≡ n =
    subst (λ k. link_at (with_link ts k n) m ≡ n) (sym ends) (link_at-same ts m n leads.2) in (
      leads.0,
      leads.1,
      is_tagged-written ts last n m ∙ leads.2,
      (
        simp other link,
        some,
        is_tagged-written ts last n n ∙ there,
        simp (eq-eqb n n refl) refl,
      ),
    )
Links-push ts a last n m (k ∷ ms) leads ends distinct lacks some there =
    let other = or_parts (m == n) (has (k ∷ ms) n) lacks in
    let apart : (last == m) ≡ false = has-other (k ∷ ms) last m (Ends-has last k ms ends) distinct.0 in
    let before : next_of ts last m ≡ link_at ts m = grind arith in
    let rest : Links (with_link ts last n) n (next_of ts last m) ((k ∷ ms) ++ n ∷ []) =
    Links-push ts (next_of ts last m) last n k ms leads.3 ends distinct.1 other.1 some there in
    let next : next_of (with_link ts last n) n m ≡ next_of ts last m =
    simp other.0 (link_at-other ts last n m apart ∙ sym before) in (
      leads.0,
      leads.1,
      is_tagged-written ts last n m ∙ leads.2,
      subst (λ j. Links (with_link ts last n) n j ((k ∷ ms) ++ n ∷ [])) (sym next) rest,
    )

-- the same of a list that isn't empty, whatever its first
Links-pushed : (ts : List Tag) (a last n : ℕ) (ms : List ℕ) → (a == 0) ≡ false → Links ts last a ms → Ends last ms
    → AreDistinct ms → has ms n ≡ false → (n == 0) ≡ false → is_tagged ts n ≡ true
    → Links (with_link ts last n) n a (ms ++ n ∷ [])
Links-pushed ts a last n [] full leads ends distinct lacks some there =
    absurd (true≢false (sym (eq-eqb a 0 leads) ∙ full))
Links-pushed ts a last n (m ∷ ms) full leads ends distinct lacks some there =
    Links-push ts a last n m ms leads ends distinct lacks some there

-- a chain that isn't empty has its last
last_within : (a last : ℕ) (ts : List Tag) (ms : List ℕ) → (a == 0) ≡ false → Links ts last a ms → Ends last ms
    → has ms last ≡ true
last_within a last ts [] full leads ends = absurd (true≢false (sym (eq-eqb a 0 leads) ∙ full))
last_within a last ts (m ∷ ms) full leads ends = Ends-has last m ms ends

pub has-last : (ts : List Tag) (most : ℕ) (c : Chain) → IsChain ts most c → (c.first == 0) ≡ false
    → has (listed ts most c) c.last ≡ true
has-last ts most c chain full = last_within c.first c.last ts (listed ts most c) full chain.leads chain.ends

-- ---- one more at its end

-- n has a record, and stands in none of these
pub record IsNew (ts : List Tag) (n : ℕ) (ms : List ℕ) : Type 0 where
  pub some : (n == 0) ≡ false
  pub there : is_tagged ts n ≡ true
  pub lacks : has ms n ≡ false

pub record IsPushed (ts : List Tag) (most : ℕ) (c : Chain) (n : ℕ) : Type 0 where
  pub list : listed (linked_last ts c n) most (chain_with c n) ≡ listed ts most c ++ n ∷ []
  pub chain : IsChain (linked_last ts c n) most (chain_with c n)

-- once the links lead so, it is so
pushed_by : (ts : List Tag) (most : ℕ) (c : Chain) (n : ℕ) → length (listed ts most c) < most
    → Links (linked_last ts c n) n (chain_with c n).first (listed ts most c ++ n ∷ []) → IsPushed ts most c n
pushed_by ts most c n room leads = grind (arith, length-append, walk-leads, Ends-push)

-- no chain changes that hasn't the number whose link is written
pub same_written : (ts : List Tag) (n to : ℕ) (ms : List ℕ) → has ms n ≡ false → IsSame ts (with_link ts n to) ms
same_written ts n to ms lacks m within there = grind (arith, link_at-other, is_tagged-written)

pub pushes : (ts : List Tag) (most : ℕ) (c : Chain) (n : ℕ) → IsChain ts most c → AreDistinct (listed ts most c)
    → IsNew ts n (listed ts most c) → length (listed ts most c) < most → IsPushed ts most c n
pushes ts most c n chain distinct new room = grind (arith, pushed_by, Links-pushed)

-- no chain changes that doesn't have the last that links to n
pub same_last : (ts : List Tag) (c : Chain) (n : ℕ) (ms : List ℕ) → ((c.first == 0) ≡ false → has ms c.last ≡ false)
    → IsSame ts (linked_last ts c n) ms
same_last ts c n ms apart m within there = grind (arith, same_written ts c.last n ms)

-- ---- several chains

pub lists-same : (ts us : List Tag) (most : ℕ) (cs : List Chain) → AreChains ts most cs
    → IsSame ts us (joined (lists_of ts most cs)) → (lists_of us most cs ≡ lists_of ts most cs) × AreChains us most cs
lists-same ts us most [] chains same = (refl, tt)
lists-same ts us most (c ∷ cs) chains same = grind (arith, chain-same, has-append, lists-same ts us most cs chains.1)

-- what stands in one of the lists stands in all of them together
pub listed_within : (ts : List Tag) (most : ℕ) (cs : List Chain) (w n : ℕ) (c : Chain) → w < length cs
    → c ≡ get_or cs w c → has (listed ts most c) n ≡ true → has (joined (lists_of ts most cs)) n ≡ true
listed_within ts most [] w n c within is has_n = absurd (omega arith)
listed_within ts most (d ∷ cs) zero n c within is has_n = grind (arith, has-append)
listed_within ts most (d ∷ cs) (suc w) n c within is has_n = grind (arith, has-append, listed_within ts most cs w n c)

pub chain_at : (ts : List Tag) (most : ℕ) (cs : List Chain) (w : ℕ) (c : Chain) → w < length cs → c ≡ get_or cs w c
    → AreChains ts most cs → IsChain ts most c
chain_at ts most [] w c within is chains = absurd (omega arith)
chain_at ts most (d ∷ cs) zero c within is chains = subst (λ (e : Chain). IsChain ts most e) (sym is) chains.0
chain_at ts most (d ∷ cs) (suc w) c within is chains = chain_at ts most cs w c (omega arith) is chains.1

pub list_at-lists_of : (ts : List Tag) (most : ℕ) (cs : List Chain) (w : ℕ) (c : Chain) → w < length cs
    → c ≡ get_or cs w c → list_at (lists_of ts most cs) w ≡ listed ts most c
list_at-lists_of ts most [] w c within is = absurd (omega arith)
list_at-lists_of ts most (d ∷ cs) zero c within is = ap (λ (e : Chain). listed ts most e) (sym is)
list_at-lists_of ts most (d ∷ cs) (suc w) c within is = list_at-lists_of ts most cs w c (omega arith) is

pub record ArePushed (ts : List Tag) (most : ℕ) (cs : List Chain) (w : ℕ) (c : Chain) (n : ℕ) : Type 0 where
  pub lists :
      lists_of (linked_last ts c n) most (set cs w (chain_with c n))
      ≡ set (lists_of ts most cs) w (list_at (lists_of ts most cs) w ++ n ∷ [])
  pub chains : AreChains (linked_last ts c n) most (set cs w (chain_with c n))

-- one more in one of the lists
pub pushes_one : (ts : List Tag) (most : ℕ) (cs : List Chain) (w : ℕ) (c : Chain) (n : ℕ) → w < length cs
    → c ≡ get_or cs w c → AreChains ts most cs → AreDistinct (joined (lists_of ts most cs))
    → IsNew ts n (joined (lists_of ts most cs)) → length (listed ts most c) < most → ArePushed ts most cs w c n
pushes_one ts most [] w c n within is chains distinct new room = absurd (omega arith)
pushes_one ts most (d ∷ cs) zero c n within is chains distinct new room =
    grind (arith, lacks-parts, pushes, distinct-left, distinct-apart, has-last, lists-same ts, same_last ts c n)
pushes_one ts most (d ∷ cs) (suc w) c n within is chains distinct new room =
    let front = listed ts most d in
    let back = joined (lists_of ts most cs) in
    let lacks = lacks-parts front back n new.lacks in
    let chain = chain_at ts most cs w c (omega arith) is chains.1 in
    let later = pushes_one ts most cs w c n (omega arith) is chains.1 (distinct-right front back distinct)
    (record { some = new.some; there = new.there; lacks = lacks.1 }) room in
    let own = chain-same ts (linked_last ts c n) most d chains.0
    (same_last ts c n front
    (λ full. lacks_back front back c.last distinct
    (listed_within ts most cs w c.last c (omega arith) is (has-last ts most c chain full)))) in
    record {
      lists = ap (λ ms. ms ∷ lists_of (linked_last ts c n) most (set cs w (chain_with c n))) own.0
          ∙ ap (λ mss. front ∷ mss) later.lists;
      chains = (own.1, later.chains);
    }
  where
    lacks_back : (ms ns : List ℕ) (m : ℕ) → AreDistinct (ms ++ ns) → has ns m ≡ true → has ms m ≡ false
    lacks_back ms ns m apart back_has =
        elim (cases_Bool (has ms m)) [
          | inl front_has ↦ absurd (true≢false (sym back_has ∙ distinct-apart ms ns m apart front_has))
          | inr none ↦ none
        ]

-- ---- the first is taken

pub takes : (ts : List Tag) (most : ℕ) (c : Chain) → IsChain ts most c
    → (listed ts most (chain_without_first ts c) ≡ rest_of (listed ts most c)) × IsChain ts most
    (chain_without_first ts c)
takes ts most c chain = grind (arith, length-walk, walk-leads)

pub takes_one : (ts : List Tag) (most : ℕ) (cs : List Chain) (w : ℕ) (c : Chain) → w < length cs
    → c ≡ get_or cs w c → AreChains ts most cs
    → (lists_of ts most (set cs w (chain_without_first ts c))
    ≡ set (lists_of ts most cs) w (rest_of (list_at (lists_of ts most cs) w)))
    × AreChains ts most (set cs w (chain_without_first ts c))
takes_one ts most [] w c within is chains = absurd (omega arith)
takes_one ts most (d ∷ cs) zero c within is chains = grind (arith, takes)
takes_one ts most (d ∷ cs) (suc w) c within is chains = grind (arith, takes_one ts most cs w c)

-- what is told of a first tells its number
pub first_linked : (g : Ground) (first : Option ℕ) (l : Linked) → Some l ≡ option_map (linked_in g) first
    → (first ≡ Some l.no) × (l ≡ linked_in g l.no)
first_linked g None l is = absurd (cc)
first_linked g (Some m) l is = grind arith

pub first_look : (g : Ground) (first : Option ℕ) (l : Look) → Some l ≡ option_map (look_of g) first
    → (first ≡ Some l.was.no) × (l ≡ look_of g l.was.no)
first_look g None l is = absurd (cc)
first_look g (Some m) l is = grind arith

pub none_told : {T : Type 0} (f : ℕ → T) (first : Option ℕ) → None ≡ option_map f first → first ≡ None
none_told f None is = refl
none_told f (Some m) is = absurd (cc)

-- ---- objects come and go, and all lists are emptied

pub same_new : (ts : List Tag) (n : ℕ) (ms : List ℕ) → IsSame ts (with_new_tag ts n) ms
same_new ts n ms m within there = (link_at-new ts n m, is_tagged-new ts n m there)

pub emptied_lists : (ts : List Tag) (most : ℕ) (cs : List Chain)
    → (lists_of ts most (map (λ c. no_chain) cs) ≡ map (λ ms. []) (lists_of ts most cs))
    × AreChains ts most (map (λ c. no_chain) cs)
emptied_lists ts most [] = (refl, tt)
emptied_lists ts most (c ∷ cs) = search (walk-none, emptied_lists ts most cs)

-- ---- what a chain tells of its list

Ends-last_of : (last m : ℕ) (ms : List ℕ) → Ends last (m ∷ ms) → last ≡ last_of (m ∷ ms)
Ends-last_of last m [] ends = ends
Ends-last_of last m (k ∷ ms) ends = Ends-last_of last k ms ends

-- its first is 0 where nothing stands in it
none_listed : (ts : List Tag) (last a : ℕ) (ms : List ℕ) → Links ts last a ms → (a == 0) ≡ is_empty ms
none_listed ts last a [] leads = eq-eqb a 0 leads
none_listed ts last a (m ∷ ms) leads = ap (λ k. k == 0) leads.0 ∙ leads.1

pub chain-is_empty : (ts : List Tag) (most : ℕ) (c : Chain) → IsChain ts most c
    → (c.first == 0) ≡ is_empty (listed ts most c)
chain-is_empty ts most c chain = none_listed ts c.last c.first (listed ts most c) chain.leads

first_listed : (ts : List Tag) (c : Chain) (ms : List ℕ) → Links ts c.last c.first ms → chain_first c ≡ first_in ms
first_listed ts c [] leads = grind arith
first_listed ts c (m ∷ ms) leads = grind arith

pub chain-first : (ts : List Tag) (most : ℕ) (c : Chain) → IsChain ts most c
    → chain_first c ≡ first_in (listed ts most c)
chain-first ts most c chain = first_listed ts c (listed ts most c) chain.leads

linked_by : (ts : List Tag) (c : Chain) (n : ℕ) (ms : List ℕ) → Links ts c.last c.first ms → Ends c.last ms
    → linked_last ts c n ≡ linked_last_of ts ms n
linked_by ts c n [] leads ends = simp (eq-eqb c.first 0 leads) refl
linked_by ts c n (m ∷ ms) leads ends = search (Ends-last_of c.last m ms ends)

pub chain-linked : (ts : List Tag) (most : ℕ) (c : Chain) (n : ℕ) → IsChain ts most c
    → linked_last ts c n ≡ linked_last_of ts (listed ts most c) n
chain-linked ts most c n chain = linked_by ts c n (listed ts most c) chain.leads chain.ends

-- ---- one at a place

-- the one at a place is that at the place before, from the next on
pub listed_at-next : (ts : List Tag) (last most less n place before : ℕ) → most ≡ less + 1 → place ≡ before + 1
    → (n == 0) ≡ false
    → listed_at (walk ts last most n) place ≡ listed_at (walk ts last less (next_of ts last n)) before
listed_at-next ts last most less n place before size at some = grind arith

pub listed_at-none : (ts : List Tag) (last most n place : ℕ) → (n == 0) ≡ true
    → listed_at (walk ts last most n) place ≡ None
listed_at-none ts last most n place none = grind arith

-- behind the last is nothing
pub listed_at-past : (ts : List Tag) (last most n place : ℕ) → most ≤ place
    → listed_at (walk ts last most n) place ≡ None
listed_at-past ts last most n place past = grind (arith, length-walk, drop_all)
