-- How many of a chain's pending references go with one, from the first on, as the chain is taken apart.
use Rattle.ref_clear.proofs.Common.{arith, ◌≡◌, ℕ, suc, ◌+◌, ◌==◌, true, refl, sym, ap, ◌∙◌, List, []}
use Rattle.ref_clear.proofs.Common.{◌∷◌, take, length, Option, Some, None, has, or_right, subst, rest_of}
use Rattle.ref_clear.proofs.Common.{Pending, Ground, Chain, listed, option_map}
use Rattle.ref_clear.proofs.Common.{pending_by, pending_in, pendings_in}
use Rattle.std.proofs.lemmas.List.{append-nil}
use Rattle.ref_base.specs.Refusals.{goes_with, front_with}
use Rattle.ref_base.proofs.HasLaws.{has-left}
use Rattle.ref_space.specs.Worklists.{first_in}
use Rattle.ref_space.specs.declared.linked.Linked.{Linked}
use Rattle.ref_objects.specs.Grounds.{linked_in}
use Rattle.ref_mark.specs.Chains.{chain_first, chain_without_first}
use Rattle.ref_mark.proofs.ChainLemmas.{first_linked, chain-first, takes}
use Rattle.ref_clear.specs.ClearViews.{IsPendingChain}

-- ---- counts

module _ (p : Pending) (max : ℕ) where
  -- the first goes with it
  pub counted_more : (ps rs : List Pending) (r : Pending) (count : ℕ) → ps ≡ r ∷ rs → goes_with p r ≡ true
      → count ≡ length (take max (front_with p rs)) → 1 + count ≡ length (take (suc max) (front_with p ps))
  counted_more ps rs r count is goes counted =
      let more : front_with p ps ≡ r ∷ front_with p rs = ap (front_with p) is ∙ simp goes refl in
      omega (arith, counted, ap (λ (qs : List Pending). length (take (suc max) qs)) more)

-- ---- chains

first_listed : (ns : List ℕ) (n : ℕ) → first_in ns ≡ Some n → ns ≡ n ∷ rest_of ns
first_listed [] n first = let wrong : None ≡ Some n = first in absurd cc
first_listed (m ∷ ns) n first = let same : Some m ≡ Some n = first in let e : m ≡ n = cc in ap (λ i. i ∷ ns) e

module _ {g : Ground} {c : Chain} (chain : IsPendingChain g c) {answer : Option Linked}
    (told : answer ≡ option_map (linked_in g) (chain_first c)) where
  abbrev all : List ℕ
  all = listed g.tags g.heap.config.cells c

  first_is : chain_first c ≡ first_in all
  first_is = chain-first g.tags g.heap.config.cells c chain.linked

  -- a first is told
  module _ {l : Linked} (some : answer ≡ Some l) where
    told_first : (chain_first c ≡ Some l.no) × (l ≡ linked_in g l.no)
    told_first = first_linked g (chain_first c) l (sym some ∙ told)

    all_are : all ≡ l.no ∷ rest_of all
    all_are = first_listed all l.no (sym first_is ∙ told_first.0)

    -- the others are the chain without it
    module _ {d : Chain} (taken : d ≡ chain_without_first g.tags c) where
      left_are : listed g.tags g.heap.config.cells d ≡ rest_of all
      left_are =
          ap (listed g.tags g.heap.config.cells) taken ∙ (takes g.tags g.heap.config.cells c chain.linked).0

      pub first_stands : {p : Pending} → p ≡ pending_by l
          → pendings_in g.heap.objects g.tags all
          ≡ p ∷ pendings_in g.heap.objects g.tags (listed g.tags g.heap.config.cells d)
      first_stands {p} is =
          ap (pendings_in g.heap.objects g.tags) all_are
          ∙ ap (λ ns. pending_in g.heap.objects g.tags l.no ∷ pendings_in g.heap.objects g.tags ns) (sym left_are)
          ∙ ap (λ q. q ∷ pendings_in g.heap.objects g.tags (listed g.tags g.heap.config.cells d))
          (sym (is ∙ ap pending_by told_first.1))

      pub left_chain : IsPendingChain g d
      left_chain = record {
        linked = rw taken (takes g.tags g.heap.config.cells c chain.linked).1;
        registered = λ n within.
            chain.registered n
            (has-left all [] n
            (subst (λ (ns : List ℕ). has ns n ≡ true) (sym all_are)
            (or_right (l.no == n) (has (rest_of all) n)
            (subst (λ (ns : List ℕ). has ns n ≡ true) (append-nil _ ∙ left_are) within))));
      }
