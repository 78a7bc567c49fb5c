-- Where a worker's step isn't refused, the worker has a place in each list of what workers have.
use Rattle.ref_base.proofs.Common.{arith, ◌≡◌, ℕ, ◌<◌, length, true, None, ap, State, Heap, ltb-true}
use Rattle.std.proofs.lemmas.List.{length-map}
use Rattle.ref_base.specs.Refusals.{work_refusal, is_in, is_worker}
use Rattle.ref_base.specs.declared.phase.Phase.{Phase}
use Rattle.ref_base.proofs.RowForms.{unless_passes}
use Rattle.ref_judge.specs.Judged.{Judged, Finder}
use Rattle.ref_judge.specs.Standing.{StandsFor}
use Rattle.ref_judge.proofs.LegalFacts.{legal_facts}

module _ (j : Judged) (phase : Phase) (k : ℕ) (none : work_refusal j.ground.heap j.phase phase k ≡ None) where
  is_one : k < j.ground.heap.config.workers
  is_one = ltb-true k j.ground.heap.config.workers (unless_passes (is_worker j.ground.heap k) _ _ none).0

  pub goes : is_in j.phase phase ≡ true
  goes = (unless_passes (is_in j.phase phase) _ _ (unless_passes (is_worker j.ground.heap k) _ _ none).1).0

  within_config : (a : State) → StandsFor j a → k < j.config.workers
  within_config a stands =
      let is = ap (λ (h : Heap). h.config.workers) stands.heap in
      let sizes = (legal_facts j.profile j.config a stands.lawful).sizes in
      let config = ap (λ c. c.workers) sizes.config_is in
      let own = is_one in
      omega (arith, is, config, own)

  pub within_workers : (a : State) → StandsFor j a → k < length j.workers
  within_workers a stands =
      let sizes = (legal_facts j.profile j.config a stands.lawful).sizes in
      let pending = sizes.pending in
      let all = ap length stands.finders.pending in
      let same = length-map j.workers (λ (w : Finder). w.pending) in
      let own = within_config a stands in
      omega (arith, pending, all, same, own)

  pub within_scanned : (a : State) → StandsFor j a → k < length a.scanned
  within_scanned a stands =
      let scanned = (legal_facts j.profile j.config a stands.lawful).sizes.scanned in
      let own = within_config a stands in
      omega (arith, scanned, own)
