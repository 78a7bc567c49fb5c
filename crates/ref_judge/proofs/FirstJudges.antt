-- A judge that was told no row stands for the first state alone.
use Rattle.ref_base.proofs.Common.{arith, ◌≡◌, ℕ, zero, suc, ◌+◌, ◌≤◌, List, [], ◌∷◌, length, map, refl}
use Rattle.ref_base.proofs.Common.{sym, ap, subst, first_state, false≢true, replicate}
use Rattle.ref_base.proofs.Common.{slice_index_or}
use Rattle.ref_base.specs.QueueLists.{new_queues}
use Rattle.ref_base.specs.Worlds.{Pending}
use Rattle.ref_base.specs.declared.config.Config.{Config}
use Rattle.ref_objects.specs.Grounds.{first_ground}
use Rattle.ref_judge.specs.Judged.{Judged, Finder, first_judged, no_hand, no_line, no_finder}
use Rattle.ref_judge.specs.Judged.{AreHands, AreLines}
use Rattle.ref_judge.specs.Standing.{StandsFor, IsSettled, IsOfSomeState, IsNewJudge}
use Rattle.ref_judge.specs.declared.profile.Profile.{Profile}

hands_first : (count : ℕ) → AreHands (replicate count no_hand) (replicate count [])
hands_first zero = tt
hands_first (suc count) = ((refl, refl), hands_first count)

lines_first : (count from : ℕ) → AreLines (replicate count no_line) (new_queues from count)
lines_first zero from = tt
lines_first (suc count) from = (record { stands = refl; put = refl; closed = refl }, lines_first count (from + 1))

pending_first : (count : ℕ) → map (λ (w : Finder). w.pending) (replicate count no_finder) ≡ replicate count []
pending_first zero = refl
pending_first (suc count) = ap (λ (ps : List (List Pending)). [] ∷ ps) (pending_first count)

finder_first : (count k : ℕ) → slice_index_or (replicate count no_finder) k no_finder ≡ no_finder
finder_first zero k = refl
finder_first (suc count) zero = refl
finder_first (suc count) (suc k) = finder_first count k

module _ (p : Profile) (config : Config) where
  abbrev pub first_one : Judged
  first_one = first_judged p config (first_ground config 0 (record { obj = 1; cycle = 0; page = 1 }))

  pub first_stands : StandsFor first_one (first_state config)
  first_stands = record {
    lawful = ([], refl);
    heap = refl;
    next = refl;
    holds = refl;
    mutator_hands = hands_first config.mutators;
    worker_hands = hands_first config.workers;
    lines = lines_first config.queues 0;
    phase = refl;
    cycle = refl;
    policy = refl;
    born = refl;
    count = λ marks. absurd (false≢true marks);
    chosen = refl;
    doomed = refl;
    kept = λ marks. absurd (false≢true marks);
    live = λ past. absurd (false≢true past);
    tags = record {
      old = λ n. omega arith;
      scanned = λ judges. absurd (false≢true judges);
      put = λ n q is. absurd cc;
    };
    finders = record {
      pending = pending_first config.workers;
      within = λ k. subst (λ (f : Finder). f.at ≤ length f.found) (sym (finder_first config.workers k)) (omega arith);
      found = λ judges. absurd (false≢true judges);
      cleared = λ clears. absurd (false≢true clears);
    };
  }

  pub first_settled : IsSettled first_one
  first_settled = record {
    none_grey = refl;
    grey_room = refl;
    doomed_room = refl;
    config = refl;
    none_to_move = refl;
    none_chosen = refl;
    tuned = λ going. absurd (false≢true going);
    colour = refl;
    condemning = refl;
    may = λ marks. absurd (false≢true marks);
    waits = λ clears. absurd (false≢true clears);
  }

  pub first_sound : IsOfSomeState first_one
  first_sound = record {
    settled = first_settled;
    state = first_state config;
    stands = first_stands;
    fits = λ s is. ([], is);
  }

  pub first_is : IsNewJudge p config first_one
  first_is = record {
    profile_is = refl;
    config_is = refl;
    stands = first_stands;
    alone = λ b fits. fits;
    fits = refl;
    settled = first_settled;
  }
