-- A search whose list of what it has seen is its own list of work finds exactly the ends of paths.
use Rattle.ref_base.proofs.Common.{◌≡◌, ℕ, ◌+◌, ◌-◌, ◌<◌, ◌≤◌, true, false, refl, sym, ap, subst, ◌∙◌, arith, List, []}
use Rattle.ref_base.proofs.Common.{◌∷◌, ◌++◌, length, get_or, take, append-nil, append_assoc, Option, Some, None, ◌⊎◌}
use Rattle.ref_base.proofs.Common.{inl, inr, zero, suc, false≢true, take-append-le, has, Graph, Object, Reference}
use Rattle.ref_base.proofs.Common.{object_at, is_there, Allowed, targets_at, targets_of, present, allowed_referent}
use Rattle.ref_base.proofs.Common.{added_all, fields_of, ArePathEnds, IsSearched}
use Rattle.std.proofs.Common.{length-append}
use Rattle.std.proofs.lemmas.List.{take_all, length-take}
use Rattle.ref_base.specs.Searches.{searched_referents, with_reached, unseen}
use Rattle.ref_base.proofs.HasLaws.{has-left, has-right, has-cases, has-get_or, has-take_at, has-take, has-take_more}
use Rattle.ref_base.proofs.PathLaws.{ends-wider, fields-targets, target_ends, path_within}

-- one more number leaves no more unseen
pub unseen-falls : (os : List Object) (ns : List ℕ) (n : ℕ) → unseen os (ns ++ n ∷ []) ≤ unseen os ns
unseen-falls [] ns n = omega arith
unseen-falls (o ∷ os) ns n = grind (arith, has-left, unseen-falls os ns n)

-- and one fewer where it is that of an object, and is new
pub unseen-less : (os : List Object) (ns : List ℕ) (n : ℕ) → is_there os n ≡ true → has ns n ≡ false
    → unseen os (ns ++ n ∷ []) + 1 ≤ unseen os ns
unseen-less [] ns n there fresh = absurd (false≢true there)
unseen-less (o ∷ os) ns n there fresh = grind (arith, has-right, unseen-falls, has-left, unseen-less os ns n)

-- a front is no longer than the list
pub length-front : (ms ns : List ℕ) → take (length ms) ns ≡ ms → length ms ≤ length ns
length-front ms ns front = let same = ap length front in omega (arith, same, length-take (length ms) ns)

module _ (os : List Object) where
  -- a candidate changes nothing, or goes last
  pub added-cases : (ns : List ℕ) (n : ℕ) → ((with_reached os ns n ≡ ns) × (is_there os n ≡ true → has ns n ≡ true))
      ⊎ ((with_reached os ns n ≡ ns ++ n ∷ []) × (is_there os n ≡ true) × (has ns n ≡ false))
  added-cases ns n = grind arith

  -- what was seen stays, in its place
  pub added-front : (ns : List ℕ) (n : ℕ) → (more : List ℕ) × (with_reached os ns n ≡ ns ++ more)
  added-front ns n = grind (arith, append-nil, added-cases ns n)

  pub added_all-front : (cs ns : List ℕ) → (more : List ℕ) × (added_all os ns cs ≡ ns ++ more)
  added_all-front [] ns = ([], sym (append-nil ns))
  added_all-front (c ∷ cs) ns =
      let first = added-front ns c in
      let rest = added_all-front cs (with_reached os ns c) in
      (first.0 ++ rest.0, rest.1 ∙ ap (λ ms. ms ++ rest.0) first.1 ∙ append_assoc ns first.0 rest.0)

  pub added_all-keeps : (cs ns : List ℕ) (n : ℕ) → has ns n ≡ true → has (added_all os ns cs) n ≡ true
  added_all-keeps cs ns n h = grind (arith, has-left, added_all-front cs ns)

  -- each candidate that is there is seen
  pub added-has : (ns : List ℕ) (n : ℕ) → is_there os n ≡ true → has (with_reached os ns n) n ≡ true
  added-has ns n there = grind (arith, has-right)

  pub added_all-has : (cs ns : List ℕ) (n : ℕ) → has cs n ≡ true → is_there os n ≡ true
      → has (added_all os ns cs) n ≡ true
  added_all-has [] ns n h there = absurd (false≢true h)
  added_all-has (c ∷ cs) ns n h there = grind (arith, added-has, added_all-keeps, added_all-has cs)

  -- and nothing else is
  pub added-only : (ns : List ℕ) (c n : ℕ) → has (with_reached os ns c) n ≡ true
      → (has ns n ≡ true) ⊎ ((c ≡ n) × (is_there os n ≡ true))
  added-only ns c n h = grind (arith, has-cases)

  pub added_all-only : (cs ns : List ℕ) (n : ℕ) → has (added_all os ns cs) n ≡ true
      → (has ns n ≡ true) ⊎ ((has cs n ≡ true) × (is_there os n ≡ true))
  added_all-only [] ns n h = inl h
  added_all-only (c ∷ cs) ns n h = grind (arith, added-only, added_all-only cs)

  -- what is seen grows by no more than what is unseen falls
  pub added-room : (ns : List ℕ) (n : ℕ)
      → unseen os (with_reached os ns n) + length (with_reached os ns n) ≤ unseen os ns + length ns
  added-room ns n = grind (arith, unseen-less, length-append)

  pub added_all-room : (cs ns : List ℕ)
      → unseen os (added_all os ns cs) + length (added_all os ns cs) ≤ unseen os ns + length ns
  added_all-room [] ns = omega arith
  added_all-room (c ∷ cs) ns = grind (arith, added-room, added_all-room cs)

  -- to add candidates and then others is to add all of them
  pub added_all-append : (cs ds ns : List ℕ) → added_all os ns (cs ++ ds) ≡ added_all os (added_all os ns cs) ds
  added_all-append [] ds ns = refl
  added_all-append (c ∷ cs) ds ns = added_all-append cs ds (with_reached os ns c)

  -- candidates that were seen before, where they are there, change nothing
  pub added_all-old : (cs ns : List ℕ) → ((n : ℕ) → has cs n ≡ true → is_there os n ≡ true → has ns n ≡ true)
      → added_all os ns cs ≡ ns
  added_all-old [] ns old = refl
  added_all-old (c ∷ cs) ns old = grind (arith, added_all-old cs ns)

  -- so where an object's fields were, to add its referent is to add all its targets
  pub added_all-referent : (allow : Allowed) (o : Option Object) (ns : List ℕ)
      → ((n : ℕ) → has (fields_of o) n ≡ true → is_there os n ≡ true → has ns n ≡ true)
      → added_all os ns (searched_referents allow o) ≡ added_all os ns (targets_of allow o)
  added_all-referent allow None ns old = refl
  added_all-referent allow (Some o) ns old = search (added_all-append, added_all-old)

  -- what was the front of what is seen stays it
  pub added_all-take : (cs ns ms : List ℕ) → take (length ms) ns ≡ ms → take (length ms) (added_all os ns cs) ≡ ms
  added_all-take cs ns ms kept = grind (arith, take-append-le, length-front, added_all-front cs ns)

  -- to add an object's fields and then its referent is to add all its targets
  pub added_all-targets : (allow : Allowed) (m : ℕ) (o : Object) (fields : List (Option ℕ)) (referents : List ℕ)
      (before between after : List ℕ) → Some o ≡ object_at os m → fields ≡ o.fields
      → referents ≡ allowed_referent allow o.reference → between ≡ added_all os before (present fields)
      → after ≡ added_all os between referents → after ≡ added_all os before (targets_at allow os m)
  added_all-targets allow m o fields referents before between after at same may first then_rest =
      grind (arith, added_all-append)

-- what a search has seen and not yet gone on from, and what it hasn't seen
abbrev pub work_left : Graph → List ℕ → ℕ
work_left g seen = unseen g.objects seen + length seen

-- each number that it goes on from leaves less work
pub work_left-less : (g : Graph) (targets seen new : List ℕ) (next : ℕ) → next < length seen
    → new ≡ added_all g.objects seen targets → work_left g new - (next + 1) < work_left g seen - next
work_left-less g targets seen new next within is = grind (arith, added_all-room)

module _ (allow : Allowed) (g : Graph) where
  -- at first it has seen the roots that are there
  pub searched_from_roots : IsSearched allow g (added_all g.objects [] g.roots) 0 0
  searched_from_roots = grind (arith, added_all-only, added_all-has)

  module _ (seen : List ℕ) (closed next : ℕ) (so_far : IsSearched allow g seen closed next) where
    -- it goes on from one more
    pub searched_more : next < length seen
        → IsSearched allow g (added_all g.objects seen (targets_at allow g.objects (get_or seen next 0))) closed
        (next + 1)
    searched_more within =
        let os : List Object = g.objects in
        let m : ℕ = get_or seen next 0 in
        let targets : List ℕ = targets_at allow os m in
        let front = added_all-front os targets seen in
        record {
          sound = λ n h. elim (added_all-only os targets seen n h) [
            | inl old ↦ so_far.sound n old
            | inr new ↦ target_ends allow g m n (so_far.sound m (has-get_or seen next within)) new.0 new.1
          ];
          rooted = λ n there root. added_all-keeps os targets seen n (so_far.rooted n there root);
          within = let longer = ap length front.1 in omega (arith, longer, so_far.within, length-append seen front.0);
          fields_seen = λ k n first field there.
              added_all-keeps os targets seen n
              (so_far.fields_seen k n (subst (λ ms. has ms k ≡ true) (ap (take closed) front.1
              ∙ take-append-le closed seen front.0 so_far.within) first) field there);
          gone_on = λ k n done target there.
              elim (has-take_more seen front.0 next k within
              (subst (λ ms. has (take (next + 1) ms) k ≡ true) front.1 done)) [
                | inl before ↦ added_all-keeps os targets seen n (so_far.gone_on k n before target there)
                | inr last ↦
                    added_all-has os targets seen n
                    (subst (λ j. has (targets_at allow os j) n ≡ true) (sym last) target) there
              ];
        }

    -- where its fields were seen before, an object adds its referent alone
    pub referent_alone : next < closed → let m : ℕ = get_or seen next 0 in
        added_all g.objects seen (searched_referents allow (object_at g.objects m))
        ≡ added_all g.objects seen (targets_at allow g.objects m)
    referent_alone first = grind (arith, has-take_at, added_all-referent)

    -- where it has gone on from all that it has seen, that is what paths end at
    pub searched_all : length seen ≤ next → ArePathEnds allow g seen
    searched_all all = record {
      sound = so_far.sound;
      complete = λ n ends.
          path_within allow g (λ k. has seen k ≡ true) so_far.rooted
          (λ k m before target there.
          so_far.gone_on k m (subst (λ ms. has ms k ≡ true) (sym (take_all next seen all)) before) target there)
          n ends.0 ends.1;
    }

  -- so the ends of paths can be listed
  pub reached_within : (fuel next : ℕ) (seen : List ℕ) → IsSearched allow g seen 0 next
      → work_left g seen ≤ fuel + next → (ns : List ℕ) × ArePathEnds allow g ns
  reached_within zero next seen so_far enough = (seen, searched_all seen 0 next so_far (omega arith))
  reached_within (suc fuel) next seen so_far enough =
      grind (
        arith,
        added_all-room,
        reached_within fuel (next + 1),
        searched_more seen 0 next so_far,
        searched_all seen 0 next so_far,
      )

  pub reached : (ns : List ℕ) × ArePathEnds allow g ns
  reached =
      let seen : List ℕ = added_all g.objects [] g.roots in
      reached_within (work_left g seen) 0 seen searched_from_roots (omega arith)

-- what was reached by fewer references is where a search by more can begin
pub searched_from_reached : (allow more : Allowed) → ((r : Reference) → allow r ≡ true → more r ≡ true) → (g : Graph)
    (seen : List ℕ) → ArePathEnds allow g seen → IsSearched more g seen (length seen) 0
searched_from_reached allow more wider g seen all =
    grind (arith, target_ends, has-take, ends-wider allow more wider g, fields-targets allow)
