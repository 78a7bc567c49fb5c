-- Facts of histories as lists.
use Rattle.ref_turn.proofs.Common.{◌≡◌, ◌≢◌, [], ◌∷◌, ◌++◌, length, length-append, ◌≤◌, refl, sym, ap, ◌∙◌, subst}
use Rattle.ref_turn.proofs.Common.{arith, Option, Some, append-nil, same_Some, Entry, calls_by, StartsWith, Leads}
use Rattle.ref_turn.proofs.Common.{Reaches, IsLegalLog}
use Rattle.std.proofs.Common.{◌==◌, ℕ, Bool, true, false, eq-eqb, if◌then◌else◌, List, append_assoc}
use Rattle.ref_base.proofs.RunLaws.{cut_at, one_on}

-- a list is empty where what it begins is empty
pub nil_before : {A : Type 0} (xs ys : List A) → xs ++ ys ≡ [] → xs ≡ []
nil_before [] ys none = refl
nil_before (x ∷ xs) ys none = absurd (omega (arith, ap length none))

nil_at_end : {A : Type 0} (xs ys : List A) → length (xs ++ ys) ≤ length xs → ys ≡ []
nil_at_end xs [] small = refl
nil_at_end xs (y ∷ ys) small = absurd (omega (arith, length-append xs (y ∷ ys)))

module _ {S R : Type 0} where
  if_append : (b : Bool) (e : Entry S R) (xs ys zs : List (Entry S R)) → zs ≡ xs ++ ys
      → (if b then e ∷ zs else zs) ≡ (if b then e ∷ xs else xs) ++ ys
  if_append true e xs ys zs is = ap (λ l. e ∷ l) is
  if_append false e xs ys zs is = is

  pub calls_by-append : (n : ℕ) (xs ys : List (Entry S R)) → calls_by n (xs ++ ys) ≡ calls_by n xs ++ calls_by n ys
  calls_by-append n [] ys = refl
  calls_by-append n (e ∷ es) ys =
      if_append (e.by == n) e (calls_by n es) (calls_by n ys) (calls_by n (es ++ ys)) (calls_by-append n es ys)

  -- an own call stands last among the own calls
  pub calls_by-own : (n : ℕ) (xs : List (Entry S R)) (e : Entry S R) → e.by ≡ n
      → calls_by n (xs ++ e ∷ []) ≡ calls_by n xs ++ e ∷ []
  calls_by-own n xs e own = search (calls_by-append, eq-eqb)

  -- another seat's call is none of the own calls
  pub calls_by-other : (n : ℕ) (xs : List (Entry S R)) (e : Entry S R) → e.by ≢ n
      → calls_by n (xs ++ e ∷ []) ≡ calls_by n xs
  calls_by-other n xs e other = grind (arith, calls_by-append, append-nil)

  if_shorter : (b : Bool) (e : Entry S R) (xs ys : List (Entry S R)) → length xs ≤ length ys
      → length (if b then e ∷ xs else xs) ≤ length (e ∷ ys)
  if_shorter true e xs ys small = omega (arith, small)
  if_shorter false e xs ys small = omega (arith, small)

  -- a seat's own calls are no more than all
  pub calls_by-shorter : (n : ℕ) (log : List (Entry S R)) → length (calls_by n log) ≤ length log
  calls_by-shorter n [] = omega (arith)
  calls_by-shorter n (e ∷ es) = if_shorter (e.by == n) e (calls_by n es) es (calls_by-shorter n es)

  -- a seat with no call in a history has none in its beginning
  pub calls_by-none : (n : ℕ) (log seen : List (Entry S R)) → StartsWith log seen → calls_by n log ≡ []
      → calls_by n seen ≡ []
  calls_by-none n log seen begins none = grind (arith, nil_before, calls_by-append)

  pub starts_self : (log : List (Entry S R)) → StartsWith log log
  starts_self log = ([], sym (append-nil log))

  pub starts_more : (log seen more : List (Entry S R)) → StartsWith log seen → StartsWith (log ++ more) seen
  starts_more log seen more begins =
      (begins.0 ++ more, ap (λ l. l ++ more) begins.1 ∙ append_assoc seen begins.0 more)

  pub starts_length : (log seen : List (Entry S R)) → StartsWith log seen → length seen ≤ length log
  starts_length log seen begins = omega (arith, ap length begins.1, length-append seen begins.0)

  -- what was seen is all, where it is as long
  pub starts_whole : (log seen : List (Entry S R)) → StartsWith log seen → length log ≤ length seen → seen ≡ log
  starts_whole log seen begins small = grind (arith, nil_at_end, append-nil)

  module _ {X : Type 0} (steps_to : X → S → R → X → Type 0) where
    leads-snoc : (log : List (Entry S R)) (e : Entry S R) (x y z : X) → Leads steps_to x log y
        → steps_to y e.step e.reply z → Leads steps_to x (log ++ e ∷ []) z
    leads-snoc log e x y z led did = one_on (λ w (d : Entry S R) v. steps_to w d.step d.reply v) x log y z e led did

    -- entries that stand in two parts lead through a state between them
    pub leads_cut : (front back : List (Entry S R)) (x y : X) → Leads steps_to x (front ++ back) y
        → (mid : X) × Leads steps_to x front mid × Leads steps_to mid back y
    leads_cut front back x y led = cut_at (λ w (d : Entry S R) v. steps_to w d.step d.reply v) x front back y led

  module _ {M X : Type 0} (stands_for : M → X → Type 0) (steps_to : X → S → R → X → Type 0) where
    pub reaches_legal : (start : Option M) (log : List (Entry S R)) (m : M) → Reaches stands_for steps_to start log m
        → IsLegalLog stands_for steps_to start log
    reaches_legal start log m reaches a x is stands = let y = reaches a x is stands in (y.0, y.1)

    -- one step more leads to the machine after it
    pub reaches-snoc : (start : Option M) (log : List (Entry S R)) (m n : M) (e : Entry S R)
        → ((x : X) → stands_for m x → (y : X) × steps_to x e.step e.reply y × stands_for n y)
        → Reaches stands_for steps_to start log m → Reaches stands_for steps_to start (log ++ e ∷ []) n
    reaches-snoc start log m n e follows reaches a x is stands = grind (arith, leads-snoc)

    -- the first machine is reached by no call
    pub reaches_start : (m : M) → Reaches stands_for steps_to (Some m) [] m
    reaches_start m a x is stands = (x, refl, subst (λ (b : M). stands_for b x) (sym (same_Some m a is)) stands)
