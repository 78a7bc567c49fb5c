-- How marks spread: an object after the other is marked, and then what the grey lead to.
use Rattle.ref_base.proofs.Common.{arith, ◌≡◌, ℕ, ◌+◌, ◌<◌, ◌==◌, true, false, List, [], ◌∷◌, ◌++◌, length, refl}
use Rattle.ref_base.proofs.Common.{sym, ap, ◌∙◌, subst, inl, inr, ◌⊎◌, has, Graph, Object, is_there, Allowed, EndsPath}
use Rattle.ref_base.proofs.Common.{cases_Bool, true≢false, false≢true, Option, Some, None, map, take, present, Pending}
use Rattle.ref_base.proofs.Common.{get_or, and_parts, or_cases, eqb-true, not, append-nil, append_assoc}
use Rattle.std.specs.Prelude.{◌≤◌}
use Rattle.std.proofs.lemmas.List.{length-append, take_more, take_all}
use Rattle.ref_base.specs.Heaps.{one_more}
use Rattle.ref_base.proofs.HasLaws.{has-append, has-first, has-left, has-right}
use Rattle.ref_base.proofs.OneMore.{has-one_more}
use Rattle.ref_base.proofs.PathLaws.{root_ends, target_ends, path_within}
use Rattle.ref_space.specs.Worklists.{Worklist, with_last}
use Rattle.ref_objects.specs.Grounds.{Ground, MayGrow, IsWellFormed, is_unmarked, ground_marked, newly_marked}
use Rattle.ref_objects.specs.Grounds.{ground_marked_if_any}
use Rattle.ref_judge.specs.Judged.{Line, Finder}
use Rattle.ref_judge.specs.Spreading.{IsButMarks, Spread, Shades, reported_by, reported_in, pending_among}
use Rattle.ref_judge.specs.declared.hand.Hand.{Hand}

-- ---- paths

-- what paths from these roots end at, paths from more do
pub ends_more : (keeps : Allowed) (os : List Object) (roots more : List ℕ)
    → ((n : ℕ) → has roots n ≡ true → has more n ≡ true) → (n : ℕ)
    → EndsPath keeps (record { objects = os; roots = roots }) n
    → EndsPath keeps (record { objects = os; roots = more }) n
ends_more keeps os roots more wider n ends =
    let g : Graph = record { objects = os; roots = more } in
    path_within keeps (record { objects = os; roots = roots }) (EndsPath keeps g)
    (λ k there root. root_ends keeps g k there (wider k root))
    (λ m k before target there. target_ends keeps g m k before target there) n ends.0 ends.1

-- ---- one is marked

pub length-one_more : (ns : List ℕ) (n : ℕ) → length (one_more ns n) ≡ length ns + 1
length-one_more [] n = refl
length-one_more (m ∷ ns) n = grind (arith, length-one_more ns n)

pub but_itself : (g : Ground) → IsButMarks g g
but_itself g = refl

pub but_twice : (f g h : Ground) → IsButMarks f g → IsButMarks g h → IsButMarks f h
but_twice f g h first second =
    second ∙ ap (λ (x : Ground). record x {
      marked = h.marked;
      space = record x.space { unhealed = h.space.unhealed };
    }) first

has-last : (ns : List ℕ) (n : ℕ) → has (ns ++ n ∷ []) n ≡ true
has-last ns n = has-right ns (n ∷ []) n (has-first n [])

module _ (keeps : Allowed) (start : Ground) (roots : List ℕ) (g : Ground) (grey : List ℕ) where
  objects_same : IsButMarks start g → g.heap.objects ≡ start.heap.objects
  objects_same same = ap (λ (x : Ground). x.heap.objects) same

  -- paths go from more roots too
  more_reached : (more : List ℕ) (m : ℕ)
      → (has start.marked m ≡ true) ⊎ EndsPath keeps (record { objects = start.heap.objects; roots = roots }) m
      → (has start.marked m ≡ true) ⊎ EndsPath keeps (record { objects = start.heap.objects; roots = roots ++ more }) m
  more_reached more m (inl was) = inl was
  more_reached more m (inr ends) =
      inr (ends_more keeps start.heap.objects roots (roots ++ more) (λ n root. has-left roots more n root) m ends)

  -- one that was unmarked
  spread_marked : (n : ℕ) → is_unmarked g n ≡ true → Spread keeps start roots g grey
      → Spread keeps start (roots ++ n ∷ []) (record g { marked = one_more g.marked n }) (grey ++ n ∷ [])
  spread_marked n new spread =
      let os : List Object = start.heap.objects in
      let parts = and_parts (is_there g.heap.objects n) (not (has g.marked n)) new in
      let there : is_there os n ≡ true =
      subst (λ (xs : List Object). is_there xs n ≡ true) (objects_same spread.same) parts.0 in
      record {
        same = ap (λ (x : Ground). record x { marked = one_more g.marked n }) spread.same;
        wider = λ m was. grind (arith, has-one_more, spread.wider m);
        rooted = λ m root is. grind (arith, has-one_more, has-append, spread.rooted m);
        reached = λ m marked.
            elim (or_cases (n == m) (has g.marked m) (sym (has-one_more g.marked n m) ∙ marked)) [
              | inl same ↦
                  let number : n ≡ m = eqb-true n m same in
                  inr (subst (EndsPath keeps (record { objects = os; roots = roots ++ n ∷ [] })) number
                  (root_ends keeps (record { objects = os; roots = roots ++ n ∷ [] }) n there (has-last roots n)))
              | inr was ↦ more_reached (n ∷ []) m (spread.reached m was)
            ];
        closed = λ k m marked fresh other target is.
            grind (arith, has-one_more, has-append, spread.closed k m);
        are_grey = λ m is. grind (arith, has-one_more, has-append, spread.are_grey m, spread.wider n);
      }

  -- one that wasn't
  spread_other : (n : ℕ) → is_unmarked g n ≡ false → Spread keeps start roots g grey
      → Spread keeps start (roots ++ n ∷ []) g grey
  spread_other n old spread = record {
    same = spread.same;
    wider = spread.wider;
    rooted = λ m root is.
        let there : is_there g.heap.objects m ≡ true =
        subst (λ (xs : List Object). is_there xs m ≡ true) (sym (objects_same spread.same)) is in
        grind (arith, has-append, spread.rooted m);
    reached = λ m marked. more_reached (n ∷ []) m (spread.reached m marked);
    closed = spread.closed;
    are_grey = spread.are_grey;
  }

-- ---- lists of what is marked

module _ (g : Ground) (l : Worklist) (grows : MayGrow g l) where
  pub shades_none : Shades g l [] g l
  shades_none = record {
    same = but_itself g;
    room = refl;
    grows = grows;
    spread = λ keeps start roots spread.
        subst (λ (ns : List ℕ). Spread keeps start ns g l.stands) (sym (append-nil roots)) spread;
  }

  -- there is room for one that wasn't marked
  pub room_for : (n : ℕ) (h : Ground) → is_unmarked g n ≡ true → h ≡ ground_marked g n → IsWellFormed h
      → length l.stands < l.room
  room_for n h new is formed =
      let more : h ≡ record g { marked = one_more g.marked n } = is ∙ simp new refl in
      let marks : length (one_more g.marked n) ≤ length g.heap.objects =
      subst (λ (x : Ground). length x.marked ≤ length x.heap.objects) more formed.marks in
      let one = length-one_more g.marked n in
      let room = grows.room in
      let few = grows.marked in
      omega (arith, marks, one, room, few)

  pub shades_marked : (n : ℕ) (h : Ground) (m : Worklist) → is_unmarked g n ≡ true → h ≡ ground_marked g n
      → m ≡ with_last l n → Shades g l (n ∷ []) h m
  shades_marked n h m new is listed =
      let more : h ≡ record g { marked = one_more g.marked n } = is ∙ simp new refl in
      rw (more, listed) (record {
        same = refl;
        room = refl;
        grows = record { room = grows.room; marked = grown };
        spread = λ keeps start roots spread. spread_marked keeps start roots g l.stands n new spread;
      })
    where
      grown : length (l.stands ++ n ∷ []) ≤ length (one_more g.marked n)
      grown =
          let one = length-one_more g.marked n in
          let last = length-append l.stands (n ∷ []) in
          let few = grows.marked in
          omega (arith, one, last, few)

  pub shades_other : (n : ℕ) (h : Ground) → is_unmarked g n ≡ false → h ≡ ground_marked g n → Shades g l (n ∷ []) h l
  shades_other n h old is =
      let same : h ≡ g = is ∙ simp old refl in
      rw same (record {
        same = but_itself g;
        room = refl;
        grows = grows;
        spread = λ keeps start roots spread. spread_other keeps start roots g l.stands n old spread;
      })

-- one list after the other
pub shades_twice : (f : Ground) (j : Worklist) (ms : List ℕ) (g : Ground) (l : Worklist) (ns : List ℕ) (h : Ground)
    (m : Worklist) → Shades f j ms g l → Shades g l ns h m → Shades f j (ms ++ ns) h m
shades_twice f j ms g l ns h m first second = record {
  same = but_twice f g h first.same second.same;
  room = second.room ∙ first.room;
  grows = second.grows;
  spread = λ keeps start roots spread.
      subst (λ (ks : List ℕ). Spread keeps start ks h m.stands) (append_assoc roots ms ns)
      (second.spread keeps start (roots ++ ms) (first.spread keeps start roots spread));
}

pub shades_next : (f : Ground) (j : Worklist) (ms : List ℕ) (g : Ground) (l : Worklist) (ns all : List ℕ) (h : Ground)
    (m : Worklist) → all ≡ ms ++ ns → Shades f j ms g l → Shades g l ns h m → Shades f j all h m
shades_next f j ms g l ns all h m is first second =
    subst (λ (ks : List ℕ). Shades f j ks h m) (sym is) (shades_twice f j ms g l ns h m first second)

-- ---- entry by entry

-- the numbers of a list are those of its front and of its back
module _ {X : Type 0} (of : List X → List ℕ) (parts : (xs ys : List X) → of (xs ++ ys) ≡ of xs ++ of ys)
    (f : Ground) (j : Worklist) (xs : List X) (i : ℕ) (g : Ground) (l : Worklist) where
  -- the one at this place too
  pub shades_item : (x : X) (ns : List ℕ) (h : Ground) (m : Worklist) → i < length xs → of (get_or xs i x ∷ []) ≡ ns
      → Shades f j (of (take i xs)) g l → Shades g l ns h m → Shades f j (of (take (i + 1) xs)) h m
  shades_item x ns h m within one so_far now =
      shades_next f j (of (take i xs)) g l ns (of (take (i + 1) xs)) h m
      (ap of (take_more xs i x within) ∙ parts (take i xs) (get_or xs i x ∷ []) ∙ ap (λ ks. of (take i xs) ++ ks) one)
      so_far now

  -- all of them
  pub shades_all : length xs ≤ i → Shades f j (of (take i xs)) g l → Shades f j (of xs) g l
  shades_all all so_far = subst (λ (ys : List X). Shades f j (of ys) g l) (take_all i xs all) so_far

pub present-parts : (xs ys : List (Option ℕ)) → present (xs ++ ys) ≡ present xs ++ present ys
present-parts [] ys = refl
present-parts (None ∷ xs) ys = present-parts xs ys
present-parts (Some n ∷ xs) ys = ap (λ ns. n ∷ ns) (present-parts xs ys)

pub hands-parts : (xs ys : List Hand) → reported_by (xs ++ ys) ≡ reported_by xs ++ reported_by ys
hands-parts [] ys = refl
hands-parts (x ∷ xs) ys =
    ap (λ ns. x.objects ++ ns) (hands-parts xs ys) ∙ sym (append_assoc x.objects (reported_by xs) (reported_by ys))

pub lines-parts : (xs ys : List Line) → reported_in (xs ++ ys) ≡ reported_in xs ++ reported_in ys
lines-parts [] ys = refl
lines-parts (x ∷ xs) ys =
    ap (λ ns. x.stands ++ ns) (lines-parts xs ys) ∙ sym (append_assoc x.stands (reported_in xs) (reported_in ys))

pub pending-parts : (xs ys : List Finder) → pending_among (xs ++ ys) ≡ pending_among xs ++ pending_among ys
pending-parts [] ys = refl
pending-parts (x ∷ xs) ys =
    let own = map (λ (p : Pending). p.object) x.pending in
    ap (λ ns. own ++ ns) (pending-parts xs ys) ∙ sym (append_assoc own (pending_among xs) (pending_among ys))

-- ---- what a slot holds

unmarked_one : (g : Ground) (k n : ℕ) → newly_marked g (Some k) ≡ Some n → (is_unmarked g k ≡ true) × (k ≡ n)
unmarked_one g k n new =
    elim (cases_Bool (is_unmarked g k)) [
      | inl is ↦ (is, some_same (simp is at new))
      | inr other ↦ absurd (none_some (simp other at new))
    ]
  where
    some_same : {k n : ℕ} → Some k ≡ Some n → k ≡ n
    some_same same = cc

    none_some : {n : ℕ} → None ≡ Some n → ⊥
    none_some same = absurd cc

marked_one : (g : Ground) (k : ℕ) → newly_marked g (Some k) ≡ None → is_unmarked g k ≡ false
marked_one g k old =
    elim (cases_Bool (is_unmarked g k)) [ inl is ↦ absurd (some_none (simp is at old)) | inr other ↦ other ]
  where
    some_none : {n : ℕ} → Some n ≡ None → ⊥
    some_none same = absurd cc

module _ (g : Ground) (l : Worklist) (grows : MayGrow g l) where
  pub room_for_value : (value : Option ℕ) (n : ℕ) (h : Ground) → newly_marked g value ≡ Some n
      → h ≡ ground_marked_if_any g value → IsWellFormed h → length l.stands < l.room
  room_for_value None n h new is formed = absurd cc
  room_for_value (Some k) n h new is formed = room_for g l grows k h (unmarked_one g k n new).0 is formed

  pub shades_value : (value : Option ℕ) (n : ℕ) (h : Ground) (m : Worklist) → newly_marked g value ≡ Some n
      → h ≡ ground_marked_if_any g value → m ≡ with_last l n → Shades g l (present (value ∷ [])) h m
  shades_value None n h m new is listed = absurd cc
  shades_value (Some k) n h m new is listed =
      let one = unmarked_one g k n new in
      shades_marked g l grows k h m one.0 is (listed ∙ ap (with_last l) (sym one.1))

  pub shades_no_value : (value : Option ℕ) (h : Ground) (m : Worklist) → newly_marked g value ≡ None
      → h ≡ ground_marked_if_any g value → m ≡ l → Shades g l (present (value ∷ [])) h m
  shades_no_value value h m old is same =
      subst (λ (k : Worklist). Shades g l (present (value ∷ [])) h k) (sym same) (of_value value old is)
    where
      of_value : (value : Option ℕ) → newly_marked g value ≡ None → h ≡ ground_marked_if_any g value
          → Shades g l (present (value ∷ [])) h l
      of_value None old is = subst (λ (x : Ground). Shades g l [] x l) (sym is) (shades_none g l grows)
      of_value (Some k) old is = shades_other g l grows k h (marked_one g k old) is

pub objects-parts : (xs ys : List Pending)
    → map (λ (p : Pending). p.object) (xs ++ ys) ≡ map (λ (p : Pending). p.object) xs ++ map
    (λ (p : Pending). p.object) ys
objects-parts [] ys = refl
objects-parts (x ∷ xs) ys = ap (λ ns. x.object ∷ ns) (objects-parts xs ys)

-- at the start nothing was marked anew
pub spread_itself : (keeps : Allowed) (g : Ground) (grey : List ℕ) → grey ≡ [] → Spread keeps g [] g grey
spread_itself keeps g grey none = record {
  same = but_itself g;
  wider = λ n was. was;
  rooted = λ n root there. absurd (false≢true root);
  reached = λ n marked. inl marked;
  closed = λ m n marked fresh other target there. absurd (true≢false (sym marked ∙ fresh));
  are_grey = λ n is. absurd (false≢true (sym (ap (λ (ns : List ℕ). has ns n) none) ∙ is));
}
