-- What a state's roots name, the judge's objects spare.
use Rattle.ref_base.proofs.Common.{◌≡◌, ℕ, Bool, true, false, not, ◌&&◌, refl, sym, ap, ◌∙◌, has, is_there, Heap, State}
use Rattle.ref_base.proofs.Common.{graph_of}
use Rattle.ref_base.specs.Forgetting.{forgotten}
use Rattle.ref_base.proofs.Forgetting.{forgotten-shape}
use Rattle.ref_base.proofs.Reshaping.{is_there-reshaped}
use Rattle.ref_objects.specs.Grounds.{is_spared}
use Rattle.ref_judge.specs.Judged.{Judged}
use Rattle.ref_judge.specs.Standing.{StandsFor, IsSettled}
use Rattle.ref_judge.proofs.LegalFacts.{legal_facts}

-- what is there is spared where it is marked whenever what isn't marked is condemned
spared_by : (condemning there marked : Bool) → there ≡ true → (condemning ≡ true → marked ≡ true)
    → (there && not (condemning && (there && not marked))) ≡ true
spared_by true true true is live = refl
spared_by true true false is live = live refl
spared_by false true marked is live = refl
spared_by condemning false marked is live = is

-- the same objects are there
pub there_same : (j : Judged) (a : State) → StandsFor j a → (n : ℕ)
    → is_there j.ground.heap.objects n ≡ is_there a.world.heap.objects n
there_same j a stands n =
    ap (λ (h : Heap). is_there h.objects n) stands.heap
    ∙ is_there-reshaped (λ o. forgotten a.doomed o) (forgotten-shape a.doomed) a.world.heap.objects n

pub root_spared : (j : Judged) (a : State) → StandsFor j a → IsSettled j → (n : ℕ)
    → has (graph_of a.world).roots n ≡ true → is_spared j.ground n ≡ true
root_spared j a stands settled n root =
    let named = (legal_facts j.profile j.config a stands.lawful).names.roots n root in
    spared_by j.ground.condemning (is_there j.ground.heap.objects n) (has j.ground.marked n)
    (there_same j a stands n ∙ named.0)
    (λ condemns. stands.live (sym settled.condemning ∙ condemns) n named.0 ∙ ap not named.1)
