-- How the reading of a graph text goes on by one line.
use Rattle.ref_script.proofs.Common.{arith, ◌≡◌, ℕ, ◌+◌, ◌||◌, ◌==◌, Bool, true, false, List, [], ◌∷◌, ◌++◌}
use Rattle.ref_script.proofs.Common.{Option, Some, None, refl, sym, ap, ◌∙◌, append_assoc, Bor, list_all}
use Rattle.ref_script.proofs.Common.{append-nil, Graph, plain_object, number_in, Declared, Root, Plain, Reference}
use Rattle.ref_script.proofs.Common.{SpellsDeclared, declared_no, NoneTwice, SpellAll, Finds}
use Rattle.ref_script.proofs.Common.{words_of, Place, Declarations, place_fault, fault_or, first_fault}
use Rattle.ref_script.proofs.Common.{is_plain_line, told, LineFault, DoubleObject, TextFault, LinesLeft}
use Rattle.ref_script.specs.Declarations.{with_declared_no, declared_graph, is_declared, with_declared, with_all}
use Rattle.ref_base.specs.Graphs.{Object, empty_graph, is_there, with_object, reference_object}
use Rattle.ref_script.specs.GraphReading.{AreNumbersOf, has_object, AddsObject, AddsDeclared, AddsAll, FailsAfter}
use Rattle.ref_script.proofs.DeclaredSpelt.{declared_without_fault, number_of_words}
use Rattle.ref_text.specs.declared.fault.TextFault.TheVariants as texts

-- ---- the numbers of a graph's objects

-- an object is there where it was, or is the one that was added
there_after : (os : List Object) (o : Object) (n : ℕ) → is_there (with_object os o) n ≡ ((o.no == n) || is_there os n)
there_after [] o n = grind arith
there_after (p ∷ ps) o n = grind (arith, there_after ps o n)

-- the numbers that are declared behind a line are those of the graph behind it
numbers_after : (seen : List ℕ) (g : Graph) (d : Declared) → AreNumbersOf seen g
    → AreNumbersOf (with_declared_no seen (declared_no d)) (with_declared g d)
numbers_after seen g (Root m) h n = h n
numbers_after seen g (Plain m fields) h n =
    ap (λ (b : Bool). (m == n) || b) (h n) ∙ sym (there_after g.objects (plain_object m fields) n)
numbers_after seen g (Reference m s r fields) h n =
    ap (λ (b : Bool). (m == n) || b) (h n) ∙ sym (there_after g.objects (reference_object m s r fields) n)

-- a number is declared where its object is there
seen_there : (seen : List ℕ) (g : Graph) (no : Option ℕ) → AreNumbersOf seen g
    → is_declared seen no ≡ has_object g no
seen_there seen g None h = refl
seen_there seen g (Some n) h = h n

-- ---- one line

-- a line that says what can't be said a second time
pub fails_by_double : (words : List (List ℕ)) (k : ℕ) (g h : Graph) (d : Declared) (added : Bool)
    → SpellsDeclared words d → AddsObject g h d added → added ≡ false → FailsAfter words k g (texts.Line k DoubleObject)
fails_by_double words k g h d added spelt adds refused seen numbers = grind (arith, declared_without_fault)

-- ---- line by line

with_all_push : (g : Graph) (ds : List Declared) (d : Declared)
    → with_all g (ds ++ d ∷ []) ≡ with_declared (with_all g ds) d
with_all_push g [] d = refl
with_all_push g (e ∷ ds) d = with_all_push (with_declared g e) ds d

-- the graph so far, whatever spells what is left
pub record HasDeclared (before now : LinesLeft) (g : Graph) : Type 0 where
  pub seen : List ℕ
  pub declared : List Declared
  pub graph_is : g ≡ declared_graph declared
  pub numbers : AreNumbersOf seen g
  pub spelt : (more : List Declared) → SpellAll (told now.lines) more
      → SpellAll (told before.lines) (declared ++ more)
  pub none_twice : (more : List Declared) → NoneTwice seen more → NoneTwice [] (declared ++ more)
  pub plain : list_all is_plain_line before.lines ≡ list_all is_plain_line now.lines
  pub fault : first_fault (Declarations []) (before.number + 1) before.lines
      ≡ first_fault (Declarations seen) (now.number + 1) now.lines

-- one line more
pub has_declared_more : (before now after : LinesLeft) (g h : Graph) (c : Bor (List ℕ))
    → HasDeclared before now g → Finds now (Some c) after → AddsDeclared (words_of c.now) g h
    → HasDeclared before after h
has_declared_more before now after g h c r f a =
    let words : List (List ℕ) = words_of c.now in
    let d : Declared = a.declared in
    let no : number_in words ≡ declared_no d = number_of_words d words a.spelt in
    let is_new : is_declared r.seen (declared_no d) ≡ false = seen_there r.seen g (declared_no d) r.numbers
    ∙ a.is_new in
    let new_words : is_declared r.seen (number_in words) ≡ false = ap (is_declared r.seen) no ∙ is_new in
    let sound : place_fault (Declarations r.seen) words ≡ None =
    rw (declared_without_fault d words a.spelt, new_words) refl in
    let seen : List ℕ = with_declared_no r.seen (declared_no d) in
    let later : first_fault (Declarations (with_declared_no r.seen (number_in words))) (after.number + 1) after.lines
    ≡ first_fault (Declarations seen) (after.number + 1) after.lines =
    ap (λ (no : Option ℕ). first_fault (Declarations (with_declared_no r.seen no)) (after.number + 1) after.lines)
    no in
    record {
      seen = seen;
      declared = r.declared ++ d ∷ [];
      graph_is = a.after ∙ ap (λ (x : Graph). with_declared x d) r.graph_is
          ∙ sym (with_all_push empty_graph r.declared d);
      numbers = rw a.after (numbers_after r.seen g d r.numbers);
      spelt = λ more spelt. rw append_assoc (r.spelt (d ∷ more) (rw f.told (a.spelt, spelt)));
      none_twice = λ more twice. rw append_assoc (r.none_twice (d ∷ more) (is_new, twice));
      plain = r.plain ∙ f.plain;
      fault = r.fault ∙ f.fault (Declarations r.seen)
          ∙ ap (λ (o : Option LineFault). fault_or after.number o (first_fault (Declarations
          (with_declared_no r.seen (number_in words))) (after.number + 1) after.lines)) sound ∙ later;
    }

-- nothing is left
pub has_declared_all : (before now after : LinesLeft) (g : Graph) → HasDeclared before now g → Finds now None after
    → AddsAll (told before.lines) g × (list_all is_plain_line before.lines ≡ true)
has_declared_all before now after g r f =
    let whole : SpellAll (told before.lines) (r.declared ++ []) = r.spelt [] (rw (f.told, f.done) tt) in
    let twice : NoneTwice [] (r.declared ++ []) = r.none_twice [] tt in (
      record {
        declared = r.declared;
        spelt = rw append-nil at whole;
        none_twice = rw append-nil at twice;
        graph_is = r.graph_is;
      },
      r.plain ∙ f.plain ∙ rw f.done refl,
    )

-- a fault of what is left is that of the text too
pub has_declared_later_fault : (before now : LinesLeft) (g : Graph) (e : TextFault) → HasDeclared before now g
    → ((place : Place) → first_fault place (now.number + 1) now.lines ≡ Some e)
    → first_fault (Declarations []) (before.number + 1) before.lines ≡ Some e
has_declared_later_fault before now g e r later = r.fault ∙ later (Declarations r.seen)
