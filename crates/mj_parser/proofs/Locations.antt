-- Loops that look for the token of a place.
use Rattle.std.proofs.Common.{◌≡◌, ℕ, zero, suc, ◌+◌, ◌-◌, ◌<◌, ◌≤◌, ◌≢◌, true, false, List, Option, Some, None, refl, arith, slice_get, find}
use Rattle.std.specs.Str.{bytes_eq}
use Rattle.mj_lexer.specs.declared.token.Token.{Token}
use Rattle.mj_lexer.specs.declared.token.Terminal.{Terminal}
use Rattle.mj_lexer.specs.declared.token.Terminal.TheVariants as terminals
use Rattle.mj_tree.specs.Trees.{Name}
use Rattle.mj_expressions.specs.Tokens.{has, name_at}
use Rattle.mj_parser.specs.Locations.{numbers, all_of, begins_method, method_name}

pub none_left : (ts : List Token) (t : Terminal) (e at n : ℕ) (x : Option ℕ) → e ≤ at → slice_get (all_of ts t at e) n ≡ x → None ≡ x
none_left ts t e at n x past is = let none : e - at ≡ 0 = omega arith in (rw none at is)

pub here : (ts : List Token) (t : Terminal) (e at n : ℕ) (x : Option ℕ) → at < e → has ts at t ≡ true → n ≡ 0 → slice_get (all_of ts t at e) n ≡ x → Some at ≡ x
here ts t e at n x below stands last is = let one : e - at ≡ suc (e - (at + 1)) = omega arith in rw (one, stands, last) at is

pub one_less : (ts : List Token) (t : Terminal) (e at n : ℕ) (x : Option ℕ) → at < e → has ts at t ≡ true → n ≢ 0 → slice_get (all_of ts t at e) n ≡ x → slice_get (all_of ts t (at + 1) e) (n - 1) ≡ x
one_less ts t e at zero x below stands more is = absurd (more refl)
one_less ts t e at (suc n) x below stands more is =
    let one : e - at ≡ suc (e - (at + 1)) = omega arith in
    let less : suc n - 1 ≡ n = omega arith in
    rw less (rw (one, stands) at is)

pub passes : (ts : List Token) (t : Terminal) (e at n : ℕ) (x : Option ℕ) → at < e → has ts at t ≡ false → slice_get (all_of ts t at e) n ≡ x → slice_get (all_of ts t (at + 1) e) n ≡ x
passes ts t e at n x below other is = let one : e - at ≡ suc (e - (at + 1)) = omega arith in rw (one, other) at is

pub methods_end : (ts : List Token) (name : Name) (e at : ℕ) (x : Option ℕ) → e ≤ at → find (begins_method ts name) (numbers at e) ≡ x → None ≡ x
methods_end ts name e at x past is = let none : e - at ≡ 0 = omega arith in (rw none at is)

pub method_found : (ts : List Token) (name found : Name) (e at : ℕ) (x : Option ℕ) → at < e → has ts at terminals.Public ≡ true → name_at ts (method_name ts at) ≡ Some found → bytes_eq found name ≡ true → find (begins_method ts name) (numbers at e) ≡ x → Some at ≡ x
method_found ts name found e at x below here named same is = let one : e - at ≡ suc (e - (at + 1)) = omega arith in rw (one, here, named, same) at is

pub other_method : (ts : List Token) (name found : Name) (e at : ℕ) (x : Option ℕ) → at < e → has ts at terminals.Public ≡ true → name_at ts (method_name ts at) ≡ Some found → bytes_eq found name ≡ false → find (begins_method ts name) (numbers at e) ≡ x → find (begins_method ts name) (numbers (at + 1) e) ≡ x
other_method ts name found e at x below here named other is = let one : e - at ≡ suc (e - (at + 1)) = omega arith in rw (one, here, named, other) at is

pub nameless : (ts : List Token) (name : Name) (e at : ℕ) (x : Option ℕ) → at < e → has ts at terminals.Public ≡ true → name_at ts (method_name ts at) ≡ None → find (begins_method ts name) (numbers at e) ≡ x → find (begins_method ts name) (numbers (at + 1) e) ≡ x
nameless ts name e at x below here none is = let one : e - at ≡ suc (e - (at + 1)) = omega arith in rw (one, here, none) at is

pub not_public : (ts : List Token) (name : Name) (e at : ℕ) (x : Option ℕ) → at < e → has ts at terminals.Public ≡ false → find (begins_method ts name) (numbers at e) ≡ x → find (begins_method ts name) (numbers (at + 1) e) ≡ x
not_public ts name e at x below other is = let one : e - at ≡ suc (e - (at + 1)) = omega arith in rw (one, other) at is
