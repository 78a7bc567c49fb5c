-- Worked traces are legal.
use Rattle.ref_base.proofs.Common.{true, false, refl, [], ◌∷◌, inl, inr, IsLegal, false≢true}
use Rattle.std.proofs.lemmas.Bool.{ltb-true as below}
use Rattle.ref_base.proofs.DoomChecks.{may_doom}
use Rattle.ref_base.proofs.ClosedSets.{are_in-has}
use Rattle.ref_base.proofs.LegalSteps.{Rows, none_left, mark_ends, legal, stop, ◌⨾◌, ◌and_then◌}
use Rattle.ref_base.proofs.Common.{State, first_state}
use Rattle.ref_base.proofs.WorkedTraces.{config_of, two_enqueued_in_order, death_reported_after_a_cycle}
use Rattle.ref_base.proofs.WorkedTraces.{order_of_refusals, first_leaving_edge, soft_kept_within_the_span}
use Rattle.ref_base.proofs.WorkedTraces.{cleared_for_every_mutator_at_once, get_keeps_the_referent}
use Rattle.ref_base.proofs.WorkedTraces.{two_workers_in_clearing_order, objects_move_once_a_cycle}
use Rattle.ref_base.proofs.WorkedTraces.{two_workers_cleared, two_workers_by_batches, memory_wants_within_a_batch}
use Rattle.ref_base.proofs.WorkedTraces.{scaled_config_of, soft_scaled_by_what_is_free}

two_enqueued_in_order_is_legal : IsLegal (config_of 1) two_enqueued_in_order
two_enqueued_in_order_is_legal = legal (config_of 1) two_enqueued_in_order (
    (_, (refl, refl), refl)
    ⨾ (_, (refl, refl), refl)
    ⨾ (_, (refl, refl), refl)
    ⨾ (_, (refl, refl), refl)
    ⨾ inl (refl, refl)
    ⨾ (_, (refl, refl), refl)
    ⨾ inl (refl, refl)
    ⨾ (refl, refl)
    ⨾ (_, (refl, refl), refl)
    ⨾ (refl, refl)
    ⨾ (_, (refl, refl), refl)
    ⨾ (refl, refl)
    ⨾ stop)

death_reported_after_a_cycle_is_legal : IsLegal (config_of 1) death_reported_after_a_cycle
death_reported_after_a_cycle_is_legal = legal (config_of 1) death_reported_after_a_cycle (
    (_, (refl, refl), refl)
    ⨾ (_, (refl, refl), refl)
    ⨾ (_, (refl, refl), refl)
    ⨾ (_, (refl, (true, refl, λ _. (2, (inl ([], (refl, refl)), below _ _ refl, refl)))), refl)
    ⨾ (_, (refl, (inl ([], (refl, refl)), below _ _ refl, refl), (false, refl, none_left)), refl)
    ⨾ (_, (refl, (refl, refl)), refl)
    ⨾ (
      _,
      mark_ends _ ((2 ∷ []) ∷ [])
          (may_doom _ _ _ (1 ∷ []) (2 ∷ []) refl refl (inl refl, (inr (inl ([], (refl, refl))), tt)) refl)
          (refl, tt) (λ n h. h),
      refl,
    )
    ⨾ (_, (refl, refl), refl)
    ⨾ (_, (refl, refl), refl)
    ⨾ (_, (refl, refl), refl)
    ⨾ inl (refl, refl)
    ⨾ (refl, refl)
    ⨾ (_, (refl, refl), refl)
    ⨾ stop)

get_keeps_the_referent_is_legal : IsLegal (config_of 1) get_keeps_the_referent
get_keeps_the_referent_is_legal = legal (config_of 1) get_keeps_the_referent (
    (_, (refl, refl), refl)
    ⨾ (_, (refl, refl), refl)
    ⨾ (_, (refl, refl), refl)
    ⨾ (_, (refl, (true, refl, λ _. (2, (inl ([], (refl, refl)), below _ _ refl, refl)))), refl)
    ⨾ (_, (refl, (inl ([], (refl, refl)), below _ _ refl, refl), (false, refl, none_left)), refl)
    ⨾ (_, (refl, (true, refl, λ _. (1, (inl ([], (refl, refl)), below _ _ refl, refl)))), refl)
    ⨾ (refl, refl)
    ⨾ (_, (refl, (inl ([], (refl, refl)), below _ _ refl, refl), (false, refl, none_left)), refl)
    ⨾ (_, (refl, (refl, refl)), refl)
    ⨾ (
      _,
      mark_ends _ ((2 ∷ []) ∷ [])
          (may_doom _ _ _ [] (2 ∷ 1 ∷ []) refl refl
          (inr (inl ([], (refl, refl))), (inr (inl ([], (refl, refl))), tt)) refl)
          (refl, tt) (λ n h. absurd (false≢true h)),
      refl,
    )
    ⨾ (_, (refl, refl), refl)
    ⨾ (_, (refl, refl), refl)
    ⨾ stop)

abbrev two_workers_clear : (a : State) × Rows (first_state (config_of 2)) two_workers_cleared a
two_workers_clear = (
  _,
  (_, (refl, refl), refl)
      ⨾ (_, (refl, refl), refl)
      ⨾ (_, (refl, refl), refl)
      ⨾ (_, (refl, refl), refl)
      ⨾ (_, (refl, refl), refl)
      ⨾ (_, (refl, refl), refl)
      ⨾ (_, (refl, refl), refl)
      ⨾ (_, (refl, (true, refl, λ _. (2, (inl ([], (refl, refl)), below _ _ refl, refl)))), refl)
      ⨾ (
        _,
        (
          refl,
          (inl ([], (refl, refl)), below _ _ refl, refl),
          (true, refl, λ _. (4, (inl ([], (refl, refl)), below _ _ refl, refl))),
        ),
        refl,
      )
      ⨾ (
        _,
        (
          refl,
          (inl ([], (refl, refl)), below _ _ refl, refl),
          (true, refl, λ _. (6, (inl ([], (refl, refl)), below _ _ refl, refl))),
        ),
        refl,
      )
      ⨾ (_, (refl, (inl ([], (refl, refl)), below _ _ refl, refl), (false, refl, none_left)), refl)
      ⨾ (
        _,
        mark_ends _ ((2 ∷ 6 ∷ []) ∷ (4 ∷ []) ∷ [])
            (may_doom _ _ _ (1 ∷ 3 ∷ 5 ∷ []) (2 ∷ 4 ∷ 6 ∷ []) refl refl (
              inl refl,
              (
                inr (inl ([], (refl, refl))),
                (
                  inl refl,
                  (inr (inl ([], (refl, refl))), (inl refl, (inr (inl ([], (refl, refl))), tt))),
                ),
              ),
            ) refl)
            (refl, (refl, tt)) (are_in-has (2 ∷ 6 ∷ 4 ∷ []) (2 ∷ 4 ∷ 6 ∷ []) refl),
        refl,
      )
      ⨾ (_, (refl, refl), refl)
      ⨾ (_, (refl, refl), refl)
      ⨾ (_, (refl, refl), refl)
      ⨾ (_, (refl, refl), refl)
      ⨾ stop,
)

two_workers_in_clearing_order_is_legal : IsLegal (config_of 2) two_workers_in_clearing_order
two_workers_in_clearing_order_is_legal =
    legal (config_of 2) two_workers_in_clearing_order
    (two_workers_clear.1 and_then (
    (_, (refl, refl), refl)
    ⨾ (_, (refl, refl), refl)
    ⨾ inl (refl, refl)
    ⨾ (_, (refl, refl), refl)
    ⨾ inl (refl, refl)
    ⨾ inl (refl, refl)
    ⨾ (refl, refl)
    ⨾ (_, (refl, refl), refl)
    ⨾ (refl, refl)
    ⨾ (_, (refl, refl), refl)
    ⨾ (refl, refl)
    ⨾ stop))

two_workers_by_batches_is_legal : IsLegal (config_of 2) two_workers_by_batches
two_workers_by_batches_is_legal =
    legal (config_of 2) two_workers_by_batches
    (two_workers_clear.1 and_then (
    (_, (refl, refl), refl)
    ⨾ (_, (refl, refl), refl)
    ⨾ inl (refl, refl)
    ⨾ (_, refl, (refl, refl, (refl, ((refl, refl, refl), tt)), tt), (refl, refl))
    ⨾ (refl, refl)
    ⨾ (_, (refl, refl), refl)
    ⨾ (refl, refl)
    ⨾ (_, (refl, refl), refl)
    ⨾ (_, refl, (refl, refl, ((refl, refl, refl), tt), tt), (refl, refl))
    ⨾ (refl, refl)
    ⨾ (refl, refl)
    ⨾ (refl, refl)
    ⨾ (_, (refl, refl), refl)
    ⨾ (_, (refl, refl), refl)
    ⨾ (refl, refl)
    ⨾ (_, (refl, refl), refl)
    ⨾ (refl, refl)
    ⨾ stop))

memory_wants_within_a_batch_is_legal : IsLegal (config_of 2) memory_wants_within_a_batch
memory_wants_within_a_batch_is_legal =
    legal (config_of 2) memory_wants_within_a_batch
    (two_workers_clear.1 and_then (
    (_, (refl, refl), refl)
    ⨾ (_, refl, (refl, refl, ((refl, refl, refl), ((refl, (refl, refl, refl)), tt)), refl), (refl, refl))
    ⨾ (_, refl, (refl, refl, ((refl, refl, refl), tt), tt), (refl, refl))
    ⨾ (refl, refl)
    ⨾ stop))

soft_kept_within_the_span_is_legal : IsLegal (config_of 1) soft_kept_within_the_span
soft_kept_within_the_span_is_legal = legal (config_of 1) soft_kept_within_the_span (
    (_, (refl, (false, refl, none_left)), refl)
    ⨾ (
      _,
      mark_ends _ ([] ∷ [])
          (may_doom _ _ _ [] ([]) refl refl (tt) refl)
          (refl, tt) (λ n h. absurd (false≢true h)),
      refl,
    )
    ⨾ (_, (refl, refl), refl)
    ⨾ (_, (refl, refl), refl)
    ⨾ (_, (refl, refl), refl)
    ⨾ (_, (refl, refl), refl)
    ⨾ (_, (refl, refl), refl)
    ⨾ (_, (refl, (true, refl, λ _. (2, (inl ([], (refl, refl)), below _ _ refl, refl)))), refl)
    ⨾ (
      _,
      (
        refl,
        (inl ([], (refl, refl)), below _ _ refl, refl),
        (true, refl, λ _. (1, (inl (2 ∷ [], (refl, refl, (refl, refl))), below _ _ refl, refl))),
      ),
      refl,
    )
    ⨾ (_, (refl, (inl (2 ∷ [], (refl, refl, (refl, refl))), below _ _ refl, refl), (false, refl, none_left)), refl)
    ⨾ (
      _,
      mark_ends _ ([] ∷ [])
          (may_doom _ _ _ [] (2 ∷ 1 ∷ []) refl refl (
            inr (inl (2 ∷ [], (refl, refl, (refl, refl)))),
            (inr (inl ([], (refl, refl))), tt),
          ) refl)
          (refl, tt) (λ n h. absurd (false≢true h)),
      refl,
    )
    ⨾ (_, (refl, refl), refl)
    ⨾ (_, (refl, refl), refl)
    ⨾ (_, (refl, (true, refl, λ _. (2, (inl ([], (refl, refl)), below _ _ refl, refl)))), refl)
    ⨾ (_, (refl, (inl ([], (refl, refl)), below _ _ refl, refl), (false, refl, none_left)), refl)
    ⨾ (
      _,
      mark_ends _ ((2 ∷ []) ∷ [])
          (may_doom _ _ _ (1 ∷ []) (2 ∷ []) refl refl (inl refl, (inr (inl ([], (refl, refl))), tt)) refl)
          (refl, tt) (λ n h. h),
      refl,
    )
    ⨾ (_, (refl, refl), refl)
    ⨾ stop)

cleared_for_every_mutator_at_once_is_legal : IsLegal (config_of 2) cleared_for_every_mutator_at_once
cleared_for_every_mutator_at_once_is_legal = legal (config_of 2) cleared_for_every_mutator_at_once (
    (_, (refl, refl), refl)
    ⨾ (_, (refl, refl), refl)
    ⨾ (_, (refl, refl), refl)
    ⨾ (_, (refl, refl), refl)
    ⨾ (_, (refl, (true, refl, λ _. (2, (inl ([], (refl, refl)), below _ _ refl, refl)))), refl)
    ⨾ (
      _,
      (
        refl,
        (inl ([], (refl, refl)), below _ _ refl, refl),
        (true, refl, λ _. (3, (inl ([], (refl, refl)), below _ _ refl, refl))),
      ),
      refl,
    )
    ⨾ (_, (refl, (inl ([], (refl, refl)), below _ _ refl, refl), (false, refl, none_left)), refl)
    ⨾ (
      _,
      mark_ends _ ((2 ∷ []) ∷ (3 ∷ []) ∷ [])
          (may_doom _ _ _ (1 ∷ []) (2 ∷ 3 ∷ []) refl refl
          (inl refl, (inr (inl ([], (refl, refl))), (inr (inl ([], (refl, refl))), tt))) refl)
          (refl, (refl, tt)) (λ n h. h),
      refl,
    )
    ⨾ (_, (refl, refl), refl)
    ⨾ (_, (refl, refl), refl)
    ⨾ (_, (refl, refl), refl)
    ⨾ (_, (refl, refl), refl)
    ⨾ (_, (refl, refl), refl)
    ⨾ (_, (refl, refl), refl)
    ⨾ inl (refl, refl)
    ⨾ (refl, refl)
    ⨾ stop)

order_of_refusals_is_legal : IsLegal (config_of 1) order_of_refusals
order_of_refusals_is_legal = legal (config_of 1) order_of_refusals (
    (refl, refl)
    ⨾ (refl, refl)
    ⨾ (refl, refl)
    ⨾ (refl, refl)
    ⨾ (refl, refl)
    ⨾ (_, (refl, refl), refl)
    ⨾ (refl, refl)
    ⨾ (refl, refl)
    ⨾ (refl, refl)
    ⨾ (_, (refl, refl), refl)
    ⨾ (_, (refl, refl), refl)
    ⨾ (refl, refl)
    ⨾ (refl, refl)
    ⨾ stop)

first_leaving_edge_is_legal : IsLegal (config_of 1) first_leaving_edge
first_leaving_edge_is_legal = legal (config_of 1) first_leaving_edge (
    (_, (refl, refl), refl)
    ⨾ (_, (refl, refl), refl)
    ⨾ (_, (refl, refl), refl)
    ⨾ (_, (refl, refl), refl)
    ⨾ (_, (refl, refl), refl)
    ⨾ (_, (refl, (true, refl, λ _. (3, (inl ([], (refl, refl)), below _ _ refl, refl)))), refl)
    ⨾ (_, (refl, (inl ([], (refl, refl)), below _ _ refl, refl), (false, refl, none_left)), refl)
    ⨾ (_, (refl, (refl, refl)), refl)
    ⨾ (
      _,
      mark_ends _ ((3 ∷ []) ∷ [])
          (may_doom _ _ _ (1 ∷ 2 ∷ []) (3 ∷ []) refl refl
          (inl refl, (inl refl, (inr (inl ([], (refl, refl))), tt))) refl)
          (refl, tt) (λ n h. h),
      refl,
    )
    ⨾ (_, (refl, refl), refl)
    ⨾ (_, (refl, refl), refl)
    ⨾ (_, (refl, refl), refl)
    ⨾ (_, (refl, refl), refl)
    ⨾ (_, (refl, refl), refl)
    ⨾ inl (refl, refl)
    ⨾ (_, (refl, refl), refl)
    ⨾ stop)

objects_move_once_a_cycle_is_legal : IsLegal (config_of 1) objects_move_once_a_cycle
objects_move_once_a_cycle_is_legal = legal (config_of 1) objects_move_once_a_cycle (
    (_, (refl, refl), refl)
    ⨾ (_, (refl, refl), refl)
    ⨾ (_, (refl, refl), refl)
    ⨾ (_, inr (inl refl, refl), refl)
    ⨾ (_, inl (2, (refl, refl)), refl)
    ⨾ (refl, refl)
    ⨾ (_, (refl, refl), refl)
    ⨾ (_, (refl, refl), refl)
    ⨾ (_, inr (refl, refl), refl)
    ⨾ (_, (refl, refl), refl)
    ⨾ (_, (refl, refl), refl)
    ⨾ (_, inl (refl, refl), refl)
    ⨾ (refl, refl)
    ⨾ (refl, refl)
    ⨾ (_, (refl, (true, refl, λ _. (1, (inl ([], (refl, refl)), below _ _ refl, refl)))), refl)
    ⨾ (
      _,
      (
        refl,
        (inl ([], (refl, refl)), below _ _ refl, refl),
        (true, refl, λ _. (2, (inl ([], (refl, refl)), below _ _ refl, refl))),
      ),
      refl,
    )
    ⨾ (
      _,
      (
        refl,
        (inl ([], (refl, refl)), below _ _ refl, refl),
        (true, refl, λ _. (3, (inl ([], (refl, refl)), below _ _ refl, refl))),
      ),
      refl,
    )
    ⨾ (_, (refl, (inl ([], (refl, refl)), below _ _ refl, refl), (false, refl, none_left)), refl)
    ⨾ (
      _,
      mark_ends _ ([] ∷ [])
          (may_doom _ _ _ [] (1 ∷ 2 ∷ 3 ∷ []) refl refl (
            inr (inl ([], (refl, refl))),
            (inr (inl ([], (refl, refl))), (inr (inl ([], (refl, refl))), tt)),
          ) refl)
          (refl, tt) (λ n h. absurd (false≢true h)),
      refl,
    )
    ⨾ (_, (refl, refl), refl)
    ⨾ (_, (refl, refl), refl)
    ⨾ (_, inr (inr refl, refl), refl)
    ⨾ (_, inl (3, (refl, refl)), refl)
    ⨾ stop)

soft_scaled_by_what_is_free_is_legal : IsLegal (scaled_config_of 1) soft_scaled_by_what_is_free
soft_scaled_by_what_is_free_is_legal = legal (scaled_config_of 1) soft_scaled_by_what_is_free (
    (_, (refl, refl), refl)
    ⨾ (_, (refl, refl), refl)
    ⨾ (_, (refl, refl), refl)
    ⨾ (_, (refl, (true, refl, λ _. (2, (inl ([], (refl, refl)), below _ _ refl, refl)))), refl)
    ⨾ (_, (refl, refl), refl)
    ⨾ (
      _,
      (
        refl,
        (inl ([], (refl, refl)), below _ _ refl, refl),
        (true, refl, λ _. (1, (inl (2 ∷ [], (refl, refl, (refl, refl))), below _ _ refl, refl))),
      ),
      refl,
    )
    ⨾ (_, (refl, (inl (2 ∷ [], (refl, refl, (refl, refl))), below _ _ refl, refl), (false, refl, none_left)), refl)
    ⨾ (
      _,
      mark_ends _ ([] ∷ [])
          (may_doom _ _ _ [] (2 ∷ 3 ∷ 1 ∷ []) refl refl (
            inr (inl (2 ∷ [], (refl, refl, (refl, refl)))),
            (inr (inl ([], (refl, refl))), (inr (inl ([], (refl, refl))), tt)),
          ) refl)
          (refl, tt) (λ n h. absurd (false≢true h)),
      refl,
    )
    ⨾ (_, (refl, refl), refl)
    ⨾ (_, (refl, refl), refl)
    ⨾ (_, (refl, (true, refl, λ _. (2, (inl ([], (refl, refl)), below _ _ refl, refl)))), refl)
    ⨾ (
      _,
      (
        refl,
        (inl ([], (refl, refl)), below _ _ refl, refl),
        (true, refl, λ _. (3, (inl ([], (refl, refl)), below _ _ refl, refl))),
      ),
      refl,
    )
    ⨾ (_, (refl, (inl ([], (refl, refl)), below _ _ refl, refl), (false, refl, none_left)), refl)
    ⨾ (_, (refl, (refl, refl)), refl)
    ⨾ (
      _,
      mark_ends _ ((2 ∷ []) ∷ [])
          (may_doom _ _ _ (1 ∷ []) (2 ∷ 3 ∷ []) refl refl (
            inl refl,
            (inr (inl ([], (refl, refl))), (inr (inl ([], (refl, refl))), tt)),
          ) refl)
          (refl, tt) (λ n h. h),
      refl,
    )
    ⨾ (_, (refl, refl), refl)
    ⨾ stop)
