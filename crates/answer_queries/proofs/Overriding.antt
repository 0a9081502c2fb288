-- A method overrides the nearest one of its name in the chain of the second class.
use Rattle.std.proofs.Common.{◌≡◌, ℕ, Bool, true, false, ◌&&◌, not, List, [], ◌∷◌, ◌++◌, map, drop, Option, Some, None, option_map, refl, sym, ap, ap₂, ◌∙◌, ◌⊎◌, inl, inr, if◌then◌else◌}
use Rattle.std.specs.Prelude.{flat_map}
use Rattle.std.specs.List.{filter_map, cons_option, AllByRecursion}
use Rattle.std.specs.Option.{option_or}
use Rattle.std.proofs.lemmas.Slice.Eq.{bytes_eq-Decides}
use Rattle.item_ids.specs.declared.key.Key.{Key}
use Rattle.item_ids.specs.declared.key.Key.TheVariants as keys
use Rattle.mj_tree.specs.Trees.{Name, Method}
use Rattle.mj_tree.specs.declared.tree.Ty.{Ty}
use Rattle.mj_tree.specs.declared.tree.Ty.TheVariants as types
use Rattle.mj_tree.specs.declared.tree.Variable.{Variable}
use Rattle.mj_tree.specs.declared.place.Place.TheVariants as places
use Rattle.mj_answer.specs.declared.code.Code.TheVariants.{E205}
use Rattle.mj_members.specs.Declarations.{ClassDecl}
use Rattle.mj_classes.specs.Declarations.{decl}
use Rattle.mj_classes.specs.Chains.{EndOf, IsChain, ancestry}
use Rattle.mj_classes.specs.Members.{nearest, or_farther, own_method}
use Rattle.mj_classes.proofs.Nearest.{ancestry_of_chain}
use Rattle.mj_phrases.specs.Inquiries.{Sig}
use Rattle.mj_phrases.proofs.ByCases.{from_accepted}
use Rattle.profiles.specs.declared.profile.Profile.{Profile}
use Rattle.profiles.specs.declared.profile.Profile.TheVariants.{One, Two}
use Rattle.mj_rules.specs.Worlds.{sig_of, world_of}
use Rattle.mj_rules.specs.FaultLists.{when_fault, same_type, same_types as same_formals, accepts, override_faults, nearest_sig, rest_of}
use Rattle.mj_rules.proofs.Signatures.{itself}
use Rattle.query_rules.specs.BodyReads.{accept_reads}
use Rattle.query_rules.specs.Reads.{return_chain}
use Rattle.answer_queries.specs.Signatures.{same_types, same_signature}
use Rattle.answer_queries.proofs.Rests.{behind}

-- ---- types

all_alike : (ts : List Ty) → same_types ts ts ≡ true
all_alike [] = refl
all_alike (t ∷ ts) = ap₂ (λ a b. a && b) (itself t) (all_alike ts)

formals_told : (vs : List Variable) (ts : List Ty) → same_formals vs ts ≡ same_types (map (λ (v : Variable). v.ty) vs) ts
formals_told [] [] = refl
formals_told [] (t ∷ ts) = refl
formals_told (v ∷ vs) [] = refl
formals_told (v ∷ vs) (t ∷ ts) = ap (λ b. same_type v.ty t && b) (formals_told vs ts)

-- a method with the first types may override one with the others
abbrev pub may : Profile → List ClassDecl → Sig → Sig → Bool
may One cs own other = same_signature own other
may Two cs own other = same_types own.formals other.formals && accepts cs own.returns other.returns

-- a method overrides one that it may not
abbrev pub clash : Profile → List ClassDecl → Option Sig → Option Sig → Bool
clash profile cs None other = false
clash profile cs (Some own) None = false
clash profile cs (Some own) (Some other) = not (may profile cs own other)

-- a method may override one with its own types
own_types : (profile : Profile) (cs : List ClassDecl) (m : Method) → clash profile cs (Some (sig_of m)) (Some (sig_of m)) ≡ false
own_types One cs m = ap₂ (λ a b. not (a && b)) (itself m.returns) (all_alike (map (λ (v : Variable). v.ty) m.formals))
own_types Two cs m = ap₂ (λ a b. not (a && b)) (all_alike (map (λ (v : Variable). v.ty) m.formals)) (from_accepted (world_of cs) m.returns m.returns (inl refl))

pub override_told : (profile : Profile) (cs : List ClassDecl) (n : ℕ) (m : Method) (o : Option Sig) → override_faults profile cs n m o ≡ when_fault (clash profile cs (Some (sig_of m)) o) (places.Method n) E205
override_told profile cs n m None = refl
override_told One cs n m (Some sig) = ap (λ b. when_fault (not (same_type m.returns sig.returns && b)) (places.Method n) E205) (formals_told m.formals sig.formals)
override_told Two cs n m (Some sig) = ap (λ b. when_fault (not (b && accepts cs m.returns sig.returns)) (places.Method n) E205) (formals_told m.formals sig.formals)

-- ---- what is read of return types

-- the chain of the return type of the first, if both have the same parameter types, and their
-- return types are classes and differ
abbrev pub sig_chain : Option Sig → Option Sig → List Key
sig_chain None other = []
sig_chain (Some own) None = []
sig_chain (Some own) (Some other) = if same_types own.formals other.formals then accept_reads own.returns other.returns else []

own_unread : (t : Ty) → accept_reads t t ≡ []
own_unread types.Int = refl
own_unread types.Boolean = refl
own_unread types.IntArray = refl
own_unread (types.Class c) = ap (λ b. if b then [] else keys.Supers c ∷ []) ((bytes_eq-Decides c c).1 refl)

-- nothing of a method's own types
own_chain : (m : Method) → sig_chain (Some (sig_of m)) (Some (sig_of m)) ≡ []
own_chain m = ap (λ b. if b then accept_reads m.returns m.returns else []) (all_alike (map (λ (v : Variable). v.ty) m.formals)) ∙ own_unread m.returns

-- what is read for a method in a profile
abbrev pub flag_reads : Profile → Option Sig → Option Sig → List Key
flag_reads One own other = []
flag_reads Two own other = sig_chain own other

chain_told : (m : Method) (o : Option Sig) → sig_chain (Some (sig_of m)) o ≡ return_chain (Some m) o
chain_told m None = refl
chain_told m (Some sig) = ap (λ b. if b then accept_reads m.returns sig.returns else []) (sym (formals_told m.formals sig.formals))

-- ---- lists of keys

pub flat_none : {A B : Type 0} (xs : List A) → flat_map (λ (x : A). let none : List B = [] in none) xs ≡ []
flat_none [] = refl
flat_none (x ∷ xs) = flat_none xs

pub flat_same : {A B : Type 0} (f g : A → List B) (xs : List A) → AllByRecursion (λ x. f x ≡ g x) xs → flat_map f xs ≡ flat_map g xs
flat_same f g [] h = refl
flat_same f g (x ∷ xs) h = ap₂ (λ ys zs. ys ++ zs) h.0 (flat_same f g xs h.1)

-- ---- the nearest method

nearest_last : {A : Type 0} (own : ClassDecl → Option A) (ks : List ClassDecl) (k : ClassDecl) → nearest own (ks ++ k ∷ []) ≡ option_or (nearest own ks) (nearest own (k ∷ []))
nearest_last own [] k = refl
nearest_last {A} own (j ∷ js) k = by (own j) (nearest_last own js k)
  where
    by : (o : Option A) → nearest own (js ++ k ∷ []) ≡ option_or (nearest own js) (nearest own (k ∷ [])) → or_farther j.name o (nearest own (js ++ k ∷ [])) ≡ option_or (or_farther j.name o (nearest own js)) (nearest own (k ∷ []))
    by None h = h
    by (Some a) h = refl

classes_last : (cs : List ClassDecl) (names : List Name) (c : Name) (k : ClassDecl) → decl cs c ≡ Some k → filter_map (decl cs) (names ++ c ∷ []) ≡ filter_map (decl cs) names ++ k ∷ []
classes_last cs [] c k e = ap (λ o. cons_option o []) e
classes_last cs (n ∷ names) c k e = ap (cons_option (decl cs n)) (classes_last cs names c k e) ∙ by (decl cs n)
  where
    by : (o : Option ClassDecl) → cons_option o (filter_map (decl cs) names ++ k ∷ []) ≡ cons_option o (filter_map (decl cs) names) ++ k ∷ []
    by None = refl
    by (Some j) = refl

module _ (cs : List ClassDecl) (c : Name) (k : ClassDecl) (e : decl cs c ≡ Some k) where
  abbrev behind_first : List Name → List ClassDecl
  behind_first names = filter_map (decl cs) names

  first_is : (names : List Name) → filter_map (decl cs) (c ∷ names) ≡ k ∷ behind_first names
  first_is names = ap (λ o. cons_option o (behind_first names)) e

  pub rest_along : (names : List Name) (end : EndOf) → IsChain cs c (c ∷ names) end → rest_of cs c ≡ behind_first names
  rest_along names end is = ap (drop 1) (ancestry_of_chain cs c (c ∷ names) end is ∙ first_is names)

  -- a first method is the nearest one of its class
  pub own_nearest : (names : List Name) (end : EndOf) → IsChain cs c (c ∷ names) end → (m : Method) → own_method m.name k ≡ Some m → nearest_sig (ancestry cs c) m.name ≡ Some (sig_of m)
  own_nearest names end is m own =
      ap (λ ks. nearest_sig ks m.name) (ancestry_of_chain cs c (c ∷ names) end is ∙ first_is names)
      ∙ ap (λ o. option_map (λ (f : Name × Method). sig_of f.1) (or_farther k.name o (nearest (own_method m.name) (behind_first names)))) own

  -- what is the same for a method's own types as for none doesn't see the class behind the rest of its chain
  module _ {A : Type 0} (f : Option Sig → A) (m : Method) (own : own_method m.name k ≡ Some m) (alike : f (Some (sig_of m)) ≡ f None) where
    last_alike : (ks : List ClassDecl) → f (nearest_sig (ks ++ k ∷ []) m.name) ≡ f (nearest_sig ks m.name)
    last_alike ks =
        ap (λ (o : Option (Name × Method)). f (option_map (λ x. sig_of x.1) o)) (nearest_last (own_method m.name) ks k ∙ ap (λ o. option_or (nearest (own_method m.name) ks) (or_farther k.name o None)) own)
        ∙ by (nearest (own_method m.name) ks)
      where
        by : (o : Option (Name × Method)) → f (option_map (λ x. sig_of x.1) (option_or o (Some (k.name, m)))) ≡ f (option_map (λ x. sig_of x.1) o)
        by None = alike
        by (Some x) = refl

    second_alike : (s : Name) (rest : List Name) (end : EndOf) → IsChain cs c (c ∷ s ∷ rest) end → f (nearest_sig (ancestry cs s) m.name) ≡ f (nearest_sig (rest_of cs c) m.name)
    second_alike s rest end is = by (behind cs c s rest end is)
      where
        along : rest_of cs c ≡ behind_first (s ∷ rest)
        along = rest_along (s ∷ rest) end is

        by : ((end : EndOf) × IsChain cs s (s ∷ rest) end) ⊎ ((end : EndOf) × IsChain cs s ((s ∷ rest) ++ c ∷ []) end) → f (nearest_sig (ancestry cs s) m.name) ≡ f (nearest_sig (rest_of cs c) m.name)
        by (inl h) = ap (λ ks. f (nearest_sig ks m.name)) (ancestry_of_chain cs s (s ∷ rest) h.0 h.1 ∙ sym along)
        by (inr h) =
            ap (λ ks. f (nearest_sig ks m.name)) (ancestry_of_chain cs s ((s ∷ rest) ++ c ∷ []) h.0 h.1 ∙ classes_last cs (s ∷ rest) c k e)
            ∙ (last_alike (behind_first (s ∷ rest)) ∙ ap (λ ks. f (nearest_sig ks m.name)) (sym along))

  module _ (s : Name) (rest : List Name) (end : EndOf) (is : IsChain cs c (c ∷ s ∷ rest) end) (m : Method) (own : own_method m.name k ≡ Some m) where
    pub clash_alike : (profile : Profile) → clash profile cs (Some (sig_of m)) (nearest_sig (ancestry cs s) m.name) ≡ clash profile cs (Some (sig_of m)) (nearest_sig (rest_of cs c) m.name)
    clash_alike profile = second_alike (clash profile cs (Some (sig_of m))) m own (own_types profile cs m) s rest end is

    pub chain_alike : sig_chain (Some (sig_of m)) (nearest_sig (ancestry cs s) m.name) ≡ return_chain (Some m) (nearest_sig (rest_of cs c) m.name)
    chain_alike = second_alike (sig_chain (Some (sig_of m))) m own (own_chain m) s rest end is ∙ chain_told m (nearest_sig (rest_of cs c) m.name)
