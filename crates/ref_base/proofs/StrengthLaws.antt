-- Each number has exactly one strength, and it is read off what was found.
use Rattle.ref_base.proofs.Common.{◌≡◌, ℕ, ◌+◌, ◌<◌, ◌≤◌, true, false, refl, sym, ap, subst, ◌∙◌, nat_eq, arith, List}
use Rattle.ref_base.proofs.Common.{[], ◌∷◌, length, map, take, Some, inl, inr, cases_Bool, true≢false, false≢true}
use Rattle.ref_base.proofs.Common.{AllByRecursion, position, has, Graph, Object, object_at, is_there, numbers, Allowed}
use Rattle.ref_base.proofs.Common.{EndsPath, no_referents, soft_referents, soft_and_weak_referents, HasStrength}
use Rattle.ref_base.proofs.Common.{HangsOnPhantom, IsRising, ArePathEnds, added_all, phantom_referents, Reach, Strong}
use Rattle.ref_base.proofs.Common.{Soft, Phantom, Unreachable}
use Rattle.std.proofs.lemmas.List.{take-take}
use Rattle.ref_base.specs.Strengths.{IsPhantomObjectTo, AreStrengths}
use Rattle.ref_base.specs.Searches.{AreSearched, found_reach, found_reaches}
use Rattle.ref_base.specs.declared.reach.Reach.TheVariants.{Weak}
use Rattle.ref_base.specs.declared.reach.ObjectReach.{ObjectReach}
use Rattle.ref_base.proofs.HasLaws.{has-first, has-front, has-right, has-take, lacks-front, lacks-take}
use Rattle.ref_base.proofs.PathLaws.{ends-wider}
use Rattle.ref_base.proofs.SearchLaws.{reached, added_all-only, added_all-has, length-front}

-- ---- what hangs on phantom references

pub phantom_referents-sound : (os : List Object) (ms : List ℕ) (n : ℕ) → has (phantom_referents os ms) n ≡ true
    → (m : ℕ) × (has ms m ≡ true) × IsPhantomObjectTo n (object_at os m)
phantom_referents-sound os [] n h = absurd (false≢true h)
phantom_referents-sound os (m ∷ ms) n h = grind (arith, has-right, phantom_referents-sound os ms n)

pub phantom_referents-complete : (os : List Object) (ms : List ℕ) (n m : ℕ) → has ms m ≡ true
    → IsPhantomObjectTo n (object_at os m) → has (phantom_referents os ms) n ≡ true
phantom_referents-complete os [] n m h phantom = absurd (false≢true h)
phantom_referents-complete os (k ∷ ks) n m h phantom = grind (arith, phantom_referents-complete os ks n m)

module _ (g : Graph) (weak : List ℕ) (all : ArePathEnds soft_and_weak_referents g weak) where
  -- what the phantom references among all weakly reachable objects refer to hangs on one
  pub hangs-sound : (n : ℕ) → has (phantom_referents g.objects weak) n ≡ true → HangsOnPhantom g n
  hangs-sound n h =
      let found = phantom_referents-sound g.objects weak n h in
      (found.0, all.sound found.0 found.1, found.2)

  pub hangs-complete : (n : ℕ) → HangsOnPhantom g n → has (phantom_referents g.objects weak) n ≡ true
  hangs-complete n h = phantom_referents-complete g.objects weak n h.0 (all.complete h.0 h.1) h.2

-- ---- one strength and no other

module _ (g : Graph) (n : ℕ) where
  pub soft_from_strong : EndsPath no_referents g n → EndsPath soft_referents g n
  soft_from_strong = ends-wider no_referents soft_referents (λ r none. absurd (false≢true none)) g n

  pub weak_from_soft : EndsPath soft_referents g n → EndsPath soft_and_weak_referents g n
  weak_from_soft = ends-wider soft_referents soft_and_weak_referents (λ r soft. simp soft refl) g n

  pub weak_from_strong : EndsPath no_referents g n → EndsPath soft_and_weak_referents g n
  weak_from_strong strong = weak_from_soft (soft_from_strong strong)

  pub exclusive : (a b : Reach) → HasStrength g n a → HasStrength g n b → a ≡ b
  exclusive Strong Strong x y = refl
  exclusive Strong Soft x y = absurd (y.0 x)
  exclusive Strong Weak x y = absurd (y.0 (soft_from_strong x))
  exclusive Strong Phantom x y = absurd (y.0 (weak_from_strong x))
  exclusive Strong Unreachable x y = absurd (y.0 (weak_from_strong x))
  exclusive Soft Strong x y = absurd (x.0 y)
  exclusive Soft Soft x y = refl
  exclusive Soft Weak x y = absurd (y.0 x.1)
  exclusive Soft Phantom x y = absurd (y.0 (weak_from_soft x.1))
  exclusive Soft Unreachable x y = absurd (y.0 (weak_from_soft x.1))
  exclusive Weak Strong x y = absurd (x.0 (soft_from_strong y))
  exclusive Weak Soft x y = absurd (x.0 y.1)
  exclusive Weak Weak x y = refl
  exclusive Weak Phantom x y = absurd (y.0 x.1)
  exclusive Weak Unreachable x y = absurd (y.0 x.1)
  exclusive Phantom Strong x y = absurd (x.0 (weak_from_strong y))
  exclusive Phantom Soft x y = absurd (x.0 (weak_from_soft y.1))
  exclusive Phantom Weak x y = absurd (x.0 y.1)
  exclusive Phantom Phantom x y = refl
  exclusive Phantom Unreachable x y = absurd (y.1 x.1)
  exclusive Unreachable Strong x y = absurd (x.0 (weak_from_strong y))
  exclusive Unreachable Soft x y = absurd (x.0 (weak_from_soft y.1))
  exclusive Unreachable Weak x y = absurd (x.0 y.1)
  exclusive Unreachable Phantom x y = absurd (x.1 y.1)
  exclusive Unreachable Unreachable x y = refl

-- ---- the strength that was found

-- what isn't among what was reached ends no path
pub unreached : (allow : Allowed) (g : Graph) (ns : List ℕ) (n : ℕ) → ArePathEnds allow g ns → has ns n ≡ false
    → ¬ (EndsPath allow g n)
unreached allow g ns n all none = λ ends. true≢false (sym (all.complete n ends) ∙ none)

module _ (g : Graph) (strong soft weak hung : List ℕ) (strong_all : ArePathEnds no_referents g strong)
    (soft_all : ArePathEnds soft_referents g soft) (weak_all : ArePathEnds soft_and_weak_referents g weak) (n : ℕ)
    (sound : has hung n ≡ true → HangsOnPhantom g n) (complete : HangsOnPhantom g n → has hung n ≡ true) where
  pub found_is : HasStrength g n (found_reach strong soft weak hung n)
  found_is =
      elim (cases_Bool (has strong n)) [
        | inl at_strong ↦
            let is : found_reach strong soft weak hung n ≡ Strong = simp at_strong refl in
            subst (HasStrength g n) (sym is) (strong_all.sound n at_strong)
        | inr not_strong ↦ elim (cases_Bool (has soft n)) [
          | inl at_soft ↦
              let is : found_reach strong soft weak hung n ≡ Soft = simp (not_strong, at_soft) refl in
              subst (HasStrength g n) (sym is)
              (unreached no_referents g strong n strong_all not_strong, soft_all.sound n at_soft)
          | inr not_soft ↦ elim (cases_Bool (has weak n)) [
            | inl at_weak ↦
                let is : found_reach strong soft weak hung n ≡ Weak = simp (not_strong, not_soft, at_weak) refl in
                subst (HasStrength g n) (sym is)
                (unreached soft_referents g soft n soft_all not_soft, weak_all.sound n at_weak)
            | inr not_weak ↦
                let no_path = unreached soft_and_weak_referents g weak n weak_all not_weak in
                elim (cases_Bool (has hung n)) [
                  | inl at_hung ↦
                      let is : found_reach strong soft weak hung n ≡ Phantom =
                      simp (not_strong, not_soft, not_weak, at_hung) refl in
                      subst (HasStrength g n) (sym is) (no_path, sound at_hung)
                  | inr not_hung ↦
                      let is : found_reach strong soft weak hung n ≡ Unreachable =
                      simp (not_strong, not_soft, not_weak, not_hung) refl in
                      subst (HasStrength g n) (sym is)
                      (no_path, λ hangs. true≢false (sym (complete hangs) ∙ not_hung))
                ]
          ]
        ]
      ]

-- the place where a number was found tells its strength
module _ (reached hung : List ℕ) (strong soft n place : ℕ) (at : Some place ≡ position (nat_eq n) reached) where
  pub found-strong : place < strong → Strong ≡ found_reach (take strong reached) (take soft reached) reached hung n
  found-strong within = let own = has-front reached n place strong at within in simp own refl

  pub found-soft : strong ≤ place → place < soft
      → Soft ≡ found_reach (take strong reached) (take soft reached) reached hung n
  found-soft beyond within =
      let none = lacks-front reached n place strong at beyond in
      let own = has-front reached n place soft at within in
      simp (none, own) refl

  pub found-weak : strong ≤ place → soft ≤ place
      → Weak ≡ found_reach (take strong reached) (take soft reached) reached hung n
  found-weak beyond later =
      let none = lacks-front reached n place strong at beyond in
      let neither = lacks-front reached n place soft at later in
      let front : has (take (place + 1) reached) n ≡ true = has-front reached n place (place + 1) at (omega arith) in
      let own = has-take (place + 1) reached n front in
      simp (none, neither, own) refl

-- and where it wasn't, what hangs on phantom references does
module _ (reached hung : List ℕ) (strong soft n : ℕ) (none : has reached n ≡ false) where
  pub found-phantom : has hung n ≡ true → Phantom ≡ found_reach (take strong reached) (take soft reached) reached hung n
  found-phantom hangs = grind (arith, lacks-take)

  pub found-nowhere : has hung n ≡ false
      → Unreachable ≡ found_reach (take strong reached) (take soft reached) reached hung n
  found-nowhere hangs = grind (arith, lacks-take)

-- each number has a strength
pub some_strength : (g : Graph) (n : ℕ) → (reach : Reach) × HasStrength g n reach
some_strength g n =
    let strong = reached no_referents g in
    let soft = reached soft_referents g in
    let weak = reached soft_and_weak_referents g in
    let hung : List ℕ = phantom_referents g.objects weak.0 in (
      found_reach strong.0 soft.0 weak.0 hung n,
      found_is g strong.0 soft.0 weak.0 hung strong.1 soft.1 weak.1 n (hangs-sound g weak.0 weak.1 n)
          (hangs-complete g weak.0 weak.1 n),
    )

-- what three searches and a pass over the last found gives the strength of each object
pub AreFound-reach : (g : Graph) (strong soft weak hung : List ℕ) → AreSearched g strong soft weak hung → (n : ℕ)
    → is_there g.objects n ≡ true → (reach : Reach) → reach ≡ found_reach strong soft weak hung n
    → HasStrength g n reach
AreFound-reach g strong soft weak hung found n there reach is =
    subst (HasStrength g n) (sym is)
    (found_is g strong soft weak hung found.strong_reached found.soft_reached found.weak_reached n
    (found.hung_sound n) (found.hung_complete n there))

-- and the pass over the last finds what hangs on phantom references, of what is there
AreFound_from : (g : Graph) (strong soft weak hung : List ℕ) → ArePathEnds no_referents g strong
    → ArePathEnds soft_referents g soft → ArePathEnds soft_and_weak_referents g weak
    → hung ≡ added_all g.objects [] (phantom_referents g.objects weak) → AreSearched g strong soft weak hung
AreFound_from g strong soft weak hung strong_all soft_all weak_all is =
    grind (arith, added_all-only, hangs-sound, added_all-has, hangs-complete)

-- a search that goes on twice finds what three searches do, as fronts of its list
pub AreFound_fronts : (g : Graph) (strong soft weak hung : List ℕ) → ArePathEnds no_referents g strong
    → ArePathEnds soft_referents g soft → ArePathEnds soft_and_weak_referents g weak
    → take (length strong) soft ≡ strong → take (length soft) weak ≡ soft
    → hung ≡ added_all g.objects [] (phantom_referents g.objects weak)
    → AreSearched g (take (length strong) weak) (take (length soft) weak) weak hung
AreFound_fronts g strong soft weak hung strong_all soft_all weak_all front later is =
    let first : take (length strong) weak ≡ strong =
    sym (take-take (length strong) (length soft) weak (length-front strong soft front))
    ∙ ap (take (length strong)) later ∙ front in
    rw (first, later) (AreFound_from g strong soft weak hung strong_all soft_all weak_all is)

-- ---- the strengths of all objects

-- each number of an object is there
pub there_from_numbers : (os : List Object) (n : ℕ) → has (numbers os) n ≡ true → is_there os n ≡ true
there_from_numbers [] n h = h
there_from_numbers (o ∷ os) n h = grind (arith, there_from_numbers os n)

module _ (g : Graph) (strong soft weak hung : List ℕ) where
  pub found_reaches-objects : (ns : List ℕ) → map (λ l. l.object) (found_reaches strong soft weak hung ns) ≡ ns
  found_reaches-objects [] = refl
  found_reaches-objects (n ∷ ns) = ap (λ ms. n ∷ ms) (found_reaches-objects ns)

  module _ (found : AreSearched g strong soft weak hung) where
    pub found_reaches-each : (ns : List ℕ) → ((n : ℕ) → has ns n ≡ true → is_there g.objects n ≡ true)
        → AllByRecursion (λ l. HasStrength g l.object l.reach) (found_reaches strong soft weak hung ns)
    found_reaches-each [] there = tt
    found_reaches-each (n ∷ ns) there = search (AreFound-reach, has-first, found_reaches-each ns, has-right (n ∷ []) ns)

    -- the strengths that are read off what was found, by number, are those of all objects
    pub AreStrengths_from : (listed : List ObjectReach) → IsRising (numbers g.objects)
        → listed ≡ found_reaches strong soft weak hung (numbers g.objects) → AreStrengths g listed
    AreStrengths_from listed rising is =
        let objects : map (λ l. l.object) listed ≡ numbers g.objects =
        ap (map (λ l. l.object)) is ∙ found_reaches-objects (numbers g.objects) in
        record {
          all = objects;
          by_number = subst IsRising (sym objects) rising;
          each = subst (AllByRecursion (λ l. HasStrength g l.object l.reach)) (sym is)
              (found_reaches-each (numbers g.objects) (there_from_numbers g.objects));
        }
