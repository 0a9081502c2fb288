-- The orders of places and diagnostics are strict and total.
use Rattle.std.proofs.Common.{◌≡◌, ℕ, zero, suc, List, Some, refl, sym, ap, ◌∙◌}
use Rattle.mj_tree.specs.declared.place.Place.{Place}
use Rattle.mj_tree.specs.declared.place.Place.TheVariants.{Project, File, ClassOf, Class, Field, Method, Inside}
use Rattle.mj_answer.specs.declared.code.Code.{Code}
use Rattle.mj_answer.specs.declared.code.Code.TheVariants.{E101}
use Rattle.mj_answer.specs.declared.diagnostic.Diagnostic.{Diagnostic}
use Rattle.mj_answer.specs.Codes.{code_number, code_of}
use Rattle.ordered_names.specs.Order.{NameBefore, IsStrictTotalOrder}
use Rattle.ordered_names.proofs.Orders.{lexicographic, by_key, numbers, names}
use Rattle.mj_answer.specs.Order.{place_order, name_in, number_in, PlaceBefore, Before}

abbrev Contents : Type 0
Contents = List ℕ × ℕ

abbrev contents_in : Place → Contents
contents_in p = (name_in p, number_in p)

abbrev PlaceKey : Type 0
PlaceKey = ℕ × Contents

abbrev place_key : Place → PlaceKey
place_key p = (place_order p, contents_in p)

-- a place with a kind and contents
abbrev place_from : ℕ → List ℕ → ℕ → Place
place_from zero name number = Project
place_from (suc zero) name number = File name
place_from (suc (suc zero)) name number = ClassOf name number
place_from (suc (suc (suc zero))) name number = Class
place_from (suc (suc (suc (suc zero)))) name number = Field number
place_from (suc (suc (suc (suc (suc zero))))) name number = Method number
place_from (suc (suc (suc (suc (suc n))))) name number = Inside name number

place_back : (p : Place) → place_from (place_order p) (name_in p) (number_in p) ≡ p
place_back Project = refl
place_back (File name) = refl
place_back (ClassOf name number) = refl
place_back Class = refl
place_back (Field number) = refl
place_back (Method number) = refl
place_back (Inside method token) = refl

pub places : IsStrictTotalOrder PlaceBefore
places = by_key place_key _ (λ p q e. sym (place_back p) ∙ ap (λ (k : PlaceKey). place_from k.0 k.1.0 k.1.1) e ∙ place_back q)
    (lexicographic _ _ numbers (lexicographic NameBefore _ names numbers))

pub code_back : (code : Code) → code_of (code_number code) ≡ Some code
code_back E101 = refl
code_back code = refl

pub code_injective : (c d : Code) → code_number c ≡ code_number d → c ≡ d
code_injective c d e = let f : Some c ≡ Some d = sym (code_back c) ∙ ap code_of e ∙ code_back d in cc

abbrev FaultKey : Type 0
FaultKey = Place × ℕ

abbrev fault_key : Diagnostic → FaultKey
fault_key d = (d.place, code_number d.code)

pub faults : IsStrictTotalOrder Before
faults = by_key fault_key _ (λ d e h. same d e (ap (λ (k : FaultKey). k.0) h) (code_injective d.code e.code (ap (λ (k : FaultKey). k.1) h)))
    (lexicographic PlaceBefore _ places numbers)
  where
    same : (d e : Diagnostic) → d.place ≡ e.place → d.code ≡ e.code → d ≡ e
    same d e p c = ap (λ (v : Place). let x : Diagnostic = record { place = v; code = d.code } in x) p ∙ ap (λ (v : Code). let x : Diagnostic = record { place = e.place; code = v } in x) c
