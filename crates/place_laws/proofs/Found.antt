-- What is found in a class of which it is known where it begins and ends.
use Rattle.std.proofs.Common.{◌≡◌, ℕ, zero, suc, ◌+◌, ◌-◌, ◌<◌, Bool, ◌&&◌, List, [], ◌∷◌, ◌++◌, map, drop, length, filter, find, slice_get, Some, None, refl, sym, ap, ◌∙◌, subst, inl, inr, arith}
use Rattle.std.specs.Str.{bytes_eq}
use Rattle.std.specs.List.{range_with_len}
use Rattle.std.proofs.lemmas.Bool.{cases_Bool, lt-ltb}
use Rattle.mj_lexer.specs.declared.token.Token.{Token}
use Rattle.mj_lexer.specs.declared.token.Terminal.{Terminal}
use Rattle.mj_lexer.specs.declared.token.Terminal.TheVariants as terminals
use Rattle.mj_tree.specs.declared.tree.Ty.{Ty}
use Rattle.mj_tree.specs.declared.tree.Ty.TheVariants as types
use Rattle.mj_tree.specs.declared.tree.Field.{Field}
use Rattle.mj_tree.specs.Trees.{Name, Method, Class}
use Rattle.mj_expressions.specs.Tokens.{has, name_at, is_word}
use Rattle.mj_expressions.specs.Steps.{◌>>=◌}
use Rattle.mj_parser.specs.Rows.{InRow, row_size}
use Rattle.mj_parser.specs.Declarations.{type_size, IsType, field_size, IsField, method_size, IsMethodAt, head_size, class_size, IsClass}
use Rattle.mj_parser.specs.Locations.{all_of, existing, class_start, class_end, all_in_class, class_name, field_name, method_name, method_start, name_of_method}
use Rattle.mj_parser.proofs.FileAgain.{has_drop}
use Rattle.mj_expressions.proofs.Binds.{some_is}
use Rattle.mj_expressions.proofs.Marks.{has_other, has_named, name_within}
use Rattle.mj_expressions.proofs.Stands.{has_is}
use Rattle.place_laws.specs.Laws.{IsNameFound, ClassTokens}
use Rattle.place_laws.specs.Parts.{Part, row_parts, field_parts, method_parts, field_name_place, method_name_place, method_named}
use Rattle.place_laws.proofs.Runs.{run, all_run, name_drop}
use Rattle.place_laws.proofs.Inside.{method_tokens}
use Rattle.place_laws.proofs.Classes.{field_end, class_publics, class_semicolons}

pub existing_is : (ts : List Token) (at : ℕ) → at < length ts → existing ts at ≡ Some at
existing_is ts at within = rw (lt-ltb at (length ts) within) refl

pub named_exists : (ts : List Token) (at : ℕ) (name : Name) → name_at ts at ≡ Some name → existing ts at ≡ Some at
named_exists ts at name e = existing_is ts at (name_within ts at name e)

-- the item of a row, where it stands
pub row_item : {A : Type 0} (Is : ℕ → A → Type 0) (size : A → ℕ) (i : ℕ) (xs : List A) (n : ℕ) (p : Part A) → InRow Is size i xs → slice_get (row_parts size i xs) n ≡ Some p → Is p.at p.item
row_item Is size i [] n p h e = absurd cc
row_item {A = A} Is size i (x ∷ xs) zero p h e = subst (λ (p : Part A). Is p.at p.item) (some_is _ _ e) h.0
row_item Is size i (x ∷ xs) (suc n) p h e = row_item Is size (i + size x) xs n p h.1 e

find_filter : {A : Type 0} (p q : A → Bool) (xs : List A) → find (λ x. p x && q x) xs ≡ find q (filter p xs)
find_filter p q [] = refl
find_filter p q (x ∷ xs) = elim (cases_Bool (p x)) [ inl e ↦ rw (e, find_filter p q xs) refl | inr e ↦ rw (e, find_filter p q xs) refl ]

get_left : {A : Type 0} (xs ys : List A) (n : ℕ) (x : A) → slice_get xs n ≡ Some x → slice_get (xs ++ ys) n ≡ Some x
get_left [] ys n x e = absurd cc
get_left (y ∷ xs) ys zero x e = e
get_left (y ∷ xs) ys (suc n) x e = get_left xs ys n x e

pub get_map : {A B : Type 0} (v : A → B) (xs : List A) (n : ℕ) (x : A) → slice_get xs n ≡ Some x → slice_get (map v xs) n ≡ Some (v x)
get_map v [] n x e = absurd cc
get_map v (y ∷ xs) zero x e = ap (λ o. o >>= λ y. Some (v y)) e
get_map v (y ∷ xs) (suc n) x e = get_map v xs n x e

pub get_map_none : {A B : Type 0} (v : A → B) (xs : List A) (n : ℕ) → slice_get xs n ≡ None → slice_get (map v xs) n ≡ None
get_map_none v [] n e = refl
get_map_none v (y ∷ xs) zero e = absurd cc
get_map_none v (y ∷ xs) (suc n) e = get_map_none v xs n e

-- ---- names of methods

module _ (ts : List Token) where
  name_of_type : (i : ℕ) (ty : Ty) (name : Name) → IsType (drop i ts) 1 ty → name_at (drop i ts) (1 + type_size ty) ≡ Some name → method_name ts i ≡ i + (1 + type_size ty)
  name_of_type i types.Int name h e =
      let other = sym (has_drop ts i 1 terminals.Static) ∙ has_other (drop i ts) 1 terminals.Int terminals.Static (has_is (drop i ts) 1 terminals.Int h) refl in
      let named = sym (has_drop ts i 2 terminals.LeftBracket) ∙ has_named (drop i ts) 2 terminals.LeftBracket name e in
      rw (other, named) refl
  name_of_type i types.Boolean name h e =
      let other = sym (has_drop ts i 1 terminals.Static) ∙ has_other (drop i ts) 1 terminals.Boolean terminals.Static (has_is (drop i ts) 1 terminals.Boolean h) refl in
      let named = sym (has_drop ts i 2 terminals.LeftBracket) ∙ has_named (drop i ts) 2 terminals.LeftBracket name e in
      rw (other, named) refl
  name_of_type i types.IntArray name h e =
      let other = sym (has_drop ts i 1 terminals.Static) ∙ has_other (drop i ts) 1 terminals.Int terminals.Static (has_is (drop i ts) 1 terminals.Int h.0) refl in
      let bracket = sym (has_drop ts i 2 terminals.LeftBracket) ∙ has_is (drop i ts) 2 terminals.LeftBracket h.1 in
      rw (other, bracket) refl
  name_of_type i (types.Class class) name h e =
      let other = sym (has_drop ts i 1 terminals.Static) ∙ has_named (drop i ts) 1 terminals.Static class h in
      let named = sym (has_drop ts i 2 terminals.LeftBracket) ∙ has_named (drop i ts) 2 terminals.LeftBracket name e in
      rw (other, named) refl

  method_name_is : (i : ℕ) (m : Method) → IsMethodAt ts i m → method_name ts i ≡ i + (1 + type_size m.returns)
  method_name_is i m h = name_of_type i m.returns m.name h.returns h.name

  method_name_there : (i : ℕ) (m : Method) → IsMethodAt ts i m → name_at ts (i + (1 + type_size m.returns)) ≡ Some m.name
  method_name_there i m h = sym (name_drop ts i (1 + type_size m.returns)) ∙ h.name

  -- whether the method at a place has a name
  abbrev pub has_name : Name → ℕ → Bool
  has_name name at = is_word name (name_at ts (method_name ts at))

  first_named : (name : Name) (k i : ℕ) (ms : List Method) → InRow (IsMethodAt ts) method_size i ms
      → (find (has_name name) (map (λ m. m.at) (row_parts method_size i ms)) >>= λ at. existing ts (at + k)) ≡ (method_named name (row_parts method_size i ms) >>= λ m. existing ts (m.at + k))
  first_named name k i [] h = refl
  first_named name k i (m ∷ ms) h =
      let there = method_name_there i m h.0 in
      let is = method_name_is i m h.0 in
      elim (cases_Bool (bytes_eq m.name name)) [
        | inl e ↦ rw (is, there, e) refl
        | inr e ↦ rw (is, there, e) (first_named name k (i + method_size m) ms h.1)
      ]

-- ---- a class that begins at a place and has so many tokens

pub record Reaches (ts : List Token) (number start size : ℕ) : Type 0 where
  pub starts : class_start ts number ≡ Some start
  pub ends : class_end ts start ≡ start + size

module _ (ts : List Token) (number start size : ℕ) (r : Reaches ts number start size) where
  all_in : (t : Terminal) → all_in_class ts t start ≡ run ts t start size
  all_in t = ap (all_of ts t start) r.ends ∙ all_run ts t start (start + size) size refl

  pub class_found : (name : Name) → name_at ts (start + 1) ≡ Some name → class_name ts number ≡ Some (start + 1)
  class_found name e = rw r.starts (named_exists ts (start + 1) name e)

  pub field_found : (n at : ℕ) → slice_get (run ts terminals.Semicolon start size) n ≡ Some (suc at) → field_name ts number n ≡ Some at
  field_found n at e = rw (r.starts, all_in terminals.Semicolon, e) refl

  pub method_found : (n at place : ℕ) (name : Name) → slice_get (run ts terminals.Public start size) n ≡ Some at → method_name ts at ≡ place → name_at ts place ≡ Some name → name_of_method ts number n ≡ Some place
  method_found n at place name e is named = rw (r.starts, all_in terminals.Public, e, is) (named_exists ts place name named)

  pub no_method_found : (n : ℕ) → slice_get (run ts terminals.Public start size) n ≡ None → name_of_method ts number n ≡ None
  no_method_found n e = rw (r.starts, all_in terminals.Public, e) refl

  pub start_found : (name : Name) → method_start ts number name ≡ find (has_name ts name) (run ts terminals.Public start size)
  start_found name =
      let width : start + size - start ≡ size = omega arith in
      rw (r.starts, r.ends, width) (find_filter (λ at. has ts at terminals.Public) (has_name ts name) (range_with_len start size))

module _ (ts : List Token) (number i : ℕ) (c : Class) (h : IsClass ts i c) (r : Reaches ts number i (class_size c)) where
  abbrev here : Part Class
  here = record { at = i; item = c }

  field_place : (n : ℕ) (f : Part Field) → slice_get (field_parts here) n ≡ Some f → IsNameFound ts (field_name ts number n) (field_name_place f) f.item.name
  field_place n f e =
      let same : field_end f.at f.item ≡ suc (field_name_place f) = omega arith in
      let listed = get_map (λ (f : Part Field). field_end f.at f.item) (field_parts here) n f e in
      let there = get_left _ (run ts terminals.Semicolon (i + head_size c + row_size field_size c.fields) (row_size method_size c.methods + 1)) n _ listed in
      let found = ap (λ places. slice_get places n) (class_semicolons ts i c h) ∙ there ∙ ap (λ (at : ℕ). Some at) same in
      (field_found ts number i (class_size c) r n (field_name_place f) found, (row_item (IsField ts) field_size (i + head_size c) c.fields n f h.fields e).1)

  method_place : (n : ℕ) (m : Part Method) → slice_get (method_parts here) n ≡ Some m → IsNameFound ts (name_of_method ts number n) (method_name_place m) m.item.name
  method_place n m e =
      let is = row_item (IsMethodAt ts) method_size (i + head_size c + row_size field_size c.fields) c.methods n m h.methods e in
      let found = ap (λ places. slice_get places n) (class_publics ts i c h) ∙ get_map (λ (m : Part Method). m.at) (method_parts here) n m e in
      let there = method_name_there ts m.at m.item is in
      (method_found ts number i (class_size c) r n m.at (method_name_place m) m.item.name found (method_name_is ts m.at m.item is) there, there)

  no_method_place : (n : ℕ) → slice_get (method_parts here) n ≡ None → name_of_method ts number n ≡ None
  no_method_place n e = no_method_found ts number i (class_size c) r n (ap (λ places. slice_get places n) (class_publics ts i c h) ∙ get_map_none (λ (m : Part Method). m.at) (method_parts here) n e)

  inside_place : (name : Name) (k : ℕ) → (method_start ts number name >>= λ start. existing ts (start + k)) ≡ (method_named name (method_parts here) >>= λ m. existing ts (m.at + k))
  inside_place name k =
      let start = start_found ts number i (class_size c) r name ∙ ap (find (has_name ts name)) (class_publics ts i c h) in
      ap (λ o. o >>= λ start. existing ts (start + k)) start ∙ first_named ts name k (i + head_size c + row_size field_size c.fields) c.methods h.methods

  pub class_tokens : ClassTokens ts number here
  class_tokens = record {
    derived = h;
    class = (class_found ts number i (class_size c) r c.name h.name, h.name);
    fields = field_place;
    methods = method_place;
    method_tokens = λ n m e. method_tokens ts m (row_item (IsMethodAt ts) method_size (i + head_size c + row_size field_size c.fields) c.methods n m h.methods e);
    no_other_method = no_method_place;
    inside = inside_place;
  }
