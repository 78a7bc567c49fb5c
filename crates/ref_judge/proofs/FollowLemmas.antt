-- The first of the grey is scanned: what it leads to by kept paths is marked, and what is marked anew is grey.
use Rattle.ref_base.proofs.Common.{arith, ◌≡◌, ℕ, ◌+◌, ◌<◌, ◌==◌, Bool, true, false, List, [], ◌∷◌, ◌++◌}
use Rattle.ref_base.proofs.Common.{length, refl, sym, ap, ◌∙◌, subst, inl, inr, ◌⊎◌, Option, Some, None, has, Object}
use Rattle.ref_base.proofs.Common.{is_there, object_at, targets_at, targets_of, allowed_referent, present, if_any}
use Rattle.ref_base.proofs.Common.{is_kept, Allowed, Reference, EndsPath, false≢true, true≢false, cases_Bool, or_right}
use Rattle.ref_base.proofs.Common.{eqb-true}
use Rattle.std.proofs.lemmas.Bool.{or_parts, false_from_ne_true}
use Rattle.std.specs.Prelude.{◌≤◌}
use Rattle.std.proofs.lemmas.List.{length-append}
use Rattle.ref_base.specs.Heaps.{one_more}
use Rattle.ref_base.specs.Members.{rest_of}
use Rattle.ref_base.specs.declared.policy.Policy.{Policy}
use Rattle.ref_base.proofs.HasLaws.{has-append, has-cases, has-first}
use Rattle.ref_base.proofs.OneMore.{has-one_more}
use Rattle.ref_base.proofs.PathLaws.{target_ends}
use Rattle.ref_space.specs.Tables.{scanned_values, kept_value}
use Rattle.ref_space.specs.Worklists.{Worklist, with_more, first_in, without_first_listed}
use Rattle.ref_objects.specs.Grounds.{Ground, MayGrow, all_marked, all_newly_marked, ground_scanned}
use Rattle.ref_objects.specs.Grounds.{ground_marked_if_any, ground_healed, newly_marked, unmarked, Space, healed}
use Rattle.ref_objects.proofs.NewMarks.{marked-stays, new_marks, all_marked-only, marked-only}
use Rattle.ref_judge.specs.Spreading.{IsButMarks, Spread, Follows}
use Rattle.ref_judge.proofs.SpreadLemmas.{but_itself, but_twice, present-parts, length-one_more}

-- ---- what a scan marks

present-kept : (keeps : Reference → Bool) (r : Option Reference)
    → present (kept_value keeps r) ≡ allowed_referent keeps r
present-kept keeps None = refl
present-kept keeps (Some r) = grind arith

targets_present : (keeps : Reference → Bool) (o : Option Object)
    → present (scanned_values keeps o) ≡ targets_of keeps o
targets_present keeps None = refl
targets_present keeps (Some o) =
    present-parts o.fields (kept_value keeps o.reference)
    ∙ ap (λ ns. present o.fields ++ ns) (present-kept keeps o.reference)

objects_if_any : (g : Ground) (value : Option ℕ) → (ground_marked_if_any g value).heap.objects ≡ g.heap.objects
objects_if_any g value = ap (λ (x : Ground). x.heap.objects) (marked-only g value)

-- what is marked was marked, or is one of these
one_mark : (g : Ground) (value : Option ℕ) (n : ℕ) → has (ground_marked_if_any g value).marked n ≡ true
    → (has g.marked n ≡ true) ⊎ ((is_there g.heap.objects n ≡ true) × (has (present (value ∷ [])) n ≡ true))
one_mark g None n h = inl h
one_mark g (Some m) n h = grind (arith, has-one_more)

all_marks : (g : Ground) (held : List (Option ℕ)) (n : ℕ) → has (all_marked g held).marked n ≡ true
    → (has g.marked n ≡ true) ⊎ ((is_there g.heap.objects n ≡ true) × (has (present held) n ≡ true))
all_marks g [] n h = inl h
all_marks g (None ∷ held) n h = all_marks g held n h
all_marks g (Some m ∷ held) n h =
    grind (
      arith,
      one_mark g (Some m) n,
      objects_if_any g (Some m),
      all_marks (ground_marked_if_any g (Some m)) held n,
    )

-- and each of these is marked
one_marked : (g : Ground) (m n : ℕ) → is_there g.heap.objects n ≡ true → (m == n) ≡ true
    → has (ground_marked_if_any g (Some m)).marked n ≡ true
one_marked g m n there same = grind (arith, has-one_more)

marks_all : (g : Ground) (held : List (Option ℕ)) (n : ℕ) → is_there g.heap.objects n ≡ true
    → has (present held) n ≡ true → has (all_marked g held).marked n ≡ true
marks_all g [] n there h = absurd (false≢true h)
marks_all g (None ∷ held) n there h = marks_all g held n there h
marks_all g (Some m ∷ held) n there h =
    grind (
      arith,
      one_marked g m n,
      objects_if_any g (Some m),
      marked-stays (ground_marked_if_any g (Some m)) held n,
      marks_all (ground_marked_if_any g (Some m)) held n,
    )

-- what is marked anew is listed
one_listed : (g : Ground) (m n : ℕ) → has (ground_marked_if_any g (Some m)).marked n ≡ true → has g.marked n ≡ false
    → has (if_any (newly_marked g (Some m))) n ≡ true
one_listed g m n h old = grind (arith, has-one_more)

new_listed : (g : Ground) (held : List (Option ℕ)) (n : ℕ) → has (all_marked g held).marked n ≡ true
    → has g.marked n ≡ false → has (all_newly_marked g held) n ≡ true
new_listed g [] n h old = absurd (false≢true (sym old ∙ h))
new_listed g (None ∷ held) n h old = new_listed g held n h old
new_listed g (Some m ∷ held) n h old =
    grind (arith, has-append, one_listed g m n, new_listed (ground_marked_if_any g (Some m)) held n)

-- ---- how many

one_longer : (g : Ground) (m : ℕ)
    → length (ground_marked_if_any g (Some m)).marked ≡ length g.marked + length (if_any (newly_marked g (Some m)))
one_longer g m = grind (arith, length-one_more)

marks_longer : (g : Ground) (held : List (Option ℕ))
    → length (all_marked g held).marked ≡ length g.marked + length (all_newly_marked g held)
marks_longer g [] = grind arith
marks_longer g (None ∷ held) = marks_longer g held
marks_longer g (Some m ∷ held) =
    let h : Ground = ground_marked_if_any g (Some m) in
    let one = one_longer g m in
    let later = marks_longer h held in
    let both = length-append (if_any (newly_marked g (Some m))) (all_newly_marked h held) in
    omega (arith, one, later, both)

-- fewer are unmarked
unmarked_less : (os : List Object) (marked : List ℕ) (m : ℕ)
    → length (unmarked os (one_more marked m)) ≤ length (unmarked os marked)
unmarked_less [] marked m = grind arith
unmarked_less (o ∷ os) marked m = grind (arith, has-one_more, unmarked_less os marked m)

unmarked_fewer : (os : List Object) (marked : List ℕ) (m : ℕ) → is_there os m ≡ true → has marked m ≡ false
    → length (unmarked os (one_more marked m)) + 1 ≤ length (unmarked os marked)
unmarked_fewer [] marked m there old = absurd (false≢true there)
unmarked_fewer (o ∷ os) marked m there old =
    grind (arith, has-one_more, unmarked_less os marked m, unmarked_fewer os marked m)

one_fewer_left : (g : Ground) (m : ℕ)
    → length (if_any (newly_marked g (Some m)))
    + length (unmarked g.heap.objects (ground_marked_if_any g (Some m)).marked)
    ≤ length (unmarked g.heap.objects g.marked)
one_fewer_left g m = grind (arith, unmarked_fewer g.heap.objects g.marked m)

fewer_left : (g : Ground) (held : List (Option ℕ))
    → length (all_newly_marked g held) + length (unmarked g.heap.objects (all_marked g held).marked)
    ≤ length (unmarked g.heap.objects g.marked)
fewer_left g [] = grind arith
fewer_left g (None ∷ held) = fewer_left g held
fewer_left g (Some m ∷ held) =
    let h : Ground = ground_marked_if_any g (Some m) in
    let one = one_fewer_left g m in
    let later : length (all_newly_marked h held) + length (unmarked g.heap.objects (all_marked h held).marked)
    ≤ length (unmarked g.heap.objects h.marked) =
    subst (λ (os : List Object).
    length (all_newly_marked h held) + length (unmarked os (all_marked h held).marked) ≤ length (unmarked os h.marked))
    (objects_if_any g (Some m)) (fewer_left h held) in
    let both = length-append (if_any (newly_marked g (Some m))) (all_newly_marked h held) in
    omega (arith, one, later, both)

-- ---- a scan

scanned_but : (keeps : Allowed) (g : Ground) (n : ℕ) → IsButMarks g (ground_scanned keeps g n)
scanned_but keeps g n =
    let h : Ground = all_marked g (scanned_values keeps (object_at g.heap.objects n)) in
    let only : h ≡ record g { marked = h.marked } =
    all_marked-only g (scanned_values keeps (object_at g.heap.objects n)) in
    ap (λ (x : Ground). ground_healed x n) only
    ∙ sym (ap (λ (s : Space). record g {
      marked = h.marked;
      space = record g.space { unhealed = (healed s n).unhealed };
    })
    (ap (λ (x : Ground). x.space) only))

module _ (keeps : Allowed) (start : Ground) (roots : List ℕ) (g : Ground) (n : ℕ) (rest : List ℕ)
    (spread : Spread keeps start roots g (n ∷ rest)) where
  abbrev held : List (Option ℕ)
  held = scanned_values keeps (object_at g.heap.objects n)

  objects : g.heap.objects ≡ start.heap.objects
  objects = ap (λ (x : Ground). x.heap.objects) spread.same

  there_in : (m : ℕ) → is_there start.heap.objects m ≡ is_there g.heap.objects m
  there_in m = ap (λ (os : List Object). is_there os m) (sym objects)

  -- what the object holds is what it leads to
  held-targets : (m : ℕ) → has (present held) m ≡ has (targets_at keeps start.heap.objects n) m
  held-targets m =
      ap (λ ns. has ns m) (targets_present keeps (object_at g.heap.objects n))
      ∙ ap (λ (os : List Object). has (targets_at keeps os n) m) objects

  own_grey : (has g.marked n ≡ true) × (has start.marked n ≡ false)
  own_grey = spread.are_grey n (has-first n rest)

  reached_anew : (m : ℕ) → is_there start.heap.objects m ≡ true → has (targets_at keeps start.heap.objects n) m ≡ true
      → EndsPath keeps (record { objects = start.heap.objects; roots = roots }) m
  reached_anew m there target =
      elim (spread.reached n own_grey.0) [
        | inl was ↦ absurd (true≢false (sym was ∙ own_grey.1))
        | inr ends ↦ target_ends keeps (record { objects = start.heap.objects; roots = roots }) n m ends target there
      ]

  not_marked : (m : ℕ) → has g.marked m ≡ false → has start.marked m ≡ false
  not_marked m old = false_from_ne_true (has start.marked m) (λ was. true≢false (sym (spread.wider m was) ∙ old))

  spread_scanned : Spread keeps start roots (ground_scanned keeps g n) (rest ++ all_newly_marked g held)
  spread_scanned = record {
    same = but_twice start g (ground_scanned keeps g n) spread.same (scanned_but keeps g n);
    wider = λ m was. marked-stays g held m (spread.wider m was);
    rooted = λ m root there. marked-stays g held m (spread.rooted m root there);
    reached = λ m marked.
        elim (all_marks g held m marked) [
          | inl was ↦ spread.reached m was
          | inr new ↦ inr (reached_anew m (there_in m ∙ new.0) (sym (held-targets m) ∙ new.1))
        ];
    closed = λ k m marked fresh other target there.
        elim (cases_Bool (n == k)) [
          | inl same ↦
              marks_all g held m (sym (there_in m) ∙ there)
              (held-targets m ∙ ap (λ (i : ℕ). has (targets_at keeps start.heap.objects i) m) (eqb-true n k same)
              ∙ target)
          | inr apart ↦
              elim (cases_Bool (has g.marked k)) [
                | inl was ↦
                    marked-stays g held m
                    (spread.closed k m was fresh (simp apart (not_left k other)) target there)
                | inr new ↦ absurd (true≢false (sym (new_listed g held k marked new) ∙ not_new k other))
              ]
        ];
    are_grey = λ m is.
        elim (has-cases rest (all_newly_marked g held) m is) [
          | inl old ↦
              let was = spread.are_grey m (or_right (n == m) (has rest m) old) in
              (marked-stays g held m was.0, was.1)
          | inr new ↦
              let tells = new_marks g held m new in (tells.1, not_marked m tells.0)
        ];
  }
    where
      not_left : (k : ℕ) → has (rest ++ all_newly_marked g held) k ≡ false → has rest k ≡ false
      not_left k other = (or_parts (has rest k) (has (all_newly_marked g held) k)
          (sym (has-append rest (all_newly_marked g held) k) ∙ other)).0

      not_new : (k : ℕ) → has (rest ++ all_newly_marked g held) k ≡ false → has (all_newly_marked g held) k ≡ false
      not_new k other = (or_parts (has rest k) (has (all_newly_marked g held) k)
          (sym (has-append rest (all_newly_marked g held) k) ∙ other)).1

-- ---- rounds

pub may_grow_less : (g : Ground) (l m : Worklist) → MayGrow g l → m ≡ without_first_listed l → MayGrow g m
may_grow_less g l m grows is =
    subst (MayGrow g) (sym is) (record { room = grows.room; marked = shorter l.stands grows.marked })
  where
    shorter : (ns : List ℕ) → length ns ≤ length g.marked → length (rest_of ns) ≤ length g.marked
    shorter [] few = few
    shorter (n ∷ ns) few = omega (arith, few)

pub follows_itself : (policy : Policy) (g : Ground) (l : Worklist) → MayGrow g l → Follows policy g l g l
follows_itself policy g l grows =
    record { same = but_itself g; room = refl; grows = grows; spread = λ start roots spread. spread }

-- the first of the grey, if there is one
begins_with : (ns : List ℕ) (n : ℕ) → Some n ≡ first_in ns → ns ≡ n ∷ rest_of ns
begins_with [] n is = absurd cc
begins_with (m ∷ ns) n is = ap (λ (k : ℕ). k ∷ ns) (same is)
  where
    same : {n m : ℕ} → Some n ≡ Some m → m ≡ n
    same is = cc

module _ (policy : Policy) (f : Ground) (j : Worklist) (g : Ground) (l : Worklist) (n : ℕ) (h : Ground)
    (taken m : Worklist) (so_far : Follows policy f j g l) (first : Some n ≡ first_in l.stands)
    (less : taken ≡ without_first_listed l) (is : h ≡ ground_scanned (is_kept policy) g n)
    (listed : m
    ≡ with_more taken (all_newly_marked g (scanned_values (is_kept policy) (object_at g.heap.objects n)))) where
  abbrev values : List (Option ℕ)
  values = scanned_values (is_kept policy) (object_at g.heap.objects n)

  after_taken : taken.stands ≡ rest_of l.stands
  after_taken = ap (λ (k : Worklist). k.stands) less

  pub follows_more : Follows policy f j h m
  follows_more = record {
    same = but_twice f g h so_far.same (subst (IsButMarks g) (sym is) (scanned_but (is_kept policy) g n));
    room = ap (λ (k : Worklist). k.room) listed ∙ ap (λ (k : Worklist). k.room) less ∙ so_far.room;
    grows = subst (λ (x : Ground). MayGrow x m) (sym is)
        (subst (MayGrow (ground_scanned (is_kept policy) g n)) (sym listed) grown);
    spread = λ start roots spread.
        subst (λ (x : Ground). Spread (is_kept policy) start roots x m.stands) (sym is)
        (subst (λ (ns : List ℕ). Spread (is_kept policy) start roots (ground_scanned (is_kept policy) g n) ns)
        (sym (ap (λ (k : Worklist). k.stands) listed ∙ ap (λ ns. ns ++ all_newly_marked g values) after_taken))
        (spread_scanned (is_kept policy) start roots g n (rest_of l.stands)
        (subst (λ (ns : List ℕ). Spread (is_kept policy) start roots g ns) (begins_with l.stands n first)
        (so_far.spread start roots spread))));
  }
    where
      grown : MayGrow (ground_scanned (is_kept policy) g n) (with_more taken (all_newly_marked g values))
      grown =
          let less_grows = may_grow_less g l taken so_far.grows less in
          let few = less_grows.marked in
          let longer = marks_longer g values in
          let both = length-append taken.stands (all_newly_marked g values) in
          let same : length (all_marked g values).heap.objects ≡ length g.heap.objects =
          ap (λ (x : Ground). length x.heap.objects) (all_marked-only g values) in
          let room = less_grows.room in
          let fits : length (all_marked g values).heap.objects ≤ taken.room = omega (arith, same, room) in
          let within : length (taken.stands ++ all_newly_marked g values) ≤ length (all_marked g values).marked =
          omega (arith, few, longer, both) in
          record { room = fits; marked = within }

  pub follows_fewer : length m.stands + length (unmarked h.heap.objects h.marked)
      < length l.stands + length (unmarked g.heap.objects g.marked)
  follows_fewer =
      let fewer = fewer_left g values in
      let both = length-append (rest_of l.stands) (all_newly_marked g values) in
      let front : length l.stands ≡ length (rest_of l.stands) + 1 =
      longer (rest_of l.stands) (begins_with l.stands n first) in
      let stands : m.stands ≡ rest_of l.stands ++ all_newly_marked g values =
      ap (λ (k : Worklist). k.stands) listed ∙ ap (λ ns. ns ++ all_newly_marked g values) after_taken in
      let objects : h.heap.objects ≡ g.heap.objects =
      ap (λ (x : Ground). x.heap.objects) (is ∙ scanned_but (is_kept policy) g n) in
      let marked : h.marked ≡ (all_marked g values).marked = ap (λ (x : Ground). x.marked) is in
      rw (stands, objects, marked) (omega (arith, fewer, both, front))
    where
      more : (ns : List ℕ) (n : ℕ) → length (n ∷ ns) ≡ length ns + 1
      more ns n = grind arith

      longer : (ns : List ℕ) → l.stands ≡ n ∷ ns → length l.stands ≡ length ns + 1
      longer ns same = ap length same ∙ more ns n

-- where none is left, that is all
pub follows_end : (policy : Policy) (f : Ground) (j : Worklist) (g : Ground) (l taken : Worklist)
    → Follows policy f j g l → None ≡ first_in l.stands → taken ≡ without_first_listed l → Follows policy f j g taken
follows_end policy f j g l taken so_far none less =
    subst (Follows policy f j g) (sym (less ∙ ap (λ (ns : List ℕ). record l { stands = ns }) (same l.stands none)))
    so_far
  where
    same : (ns : List ℕ) → None ≡ first_in ns → rest_of ns ≡ ns
    same [] none = refl
    same (n ∷ ns) none = absurd cc
