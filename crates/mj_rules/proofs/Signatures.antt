-- Types and signatures that are equal.
use Rattle.std.proofs.Common.{◌≡◌, true, List, [], ◌∷◌, map, refl, sym, ap, ap₂, ◌∙◌, true≢false}
use Rattle.std.proofs.lemmas.Slice.Eq.{bytes_eq-Decides}
use Rattle.std.proofs.lemmas.Bool.{and_parts, and_from}
use Rattle.mj_tree.specs.Trees.{Method}
use Rattle.mj_tree.specs.declared.tree.Ty.{Ty}
use Rattle.mj_tree.specs.declared.tree.Ty.TheVariants.{Int, Boolean, IntArray, Class}
use Rattle.mj_tree.specs.declared.tree.Variable.{Variable}
use Rattle.mj_phrases.specs.Inquiries.{Sig}
use Rattle.mj_rules.specs.Worlds.{sig_of}
use Rattle.mj_rules.specs.FaultLists.{same_type, same_types, same_signature}

pub same_from : (t u : Ty) → same_type t u ≡ true → t ≡ u
same_from Int Int h = refl
same_from Boolean Boolean h = refl
same_from IntArray IntArray h = refl
same_from (Class c) (Class d) h = ap Class ((bytes_eq-Decides c d).0 h)
same_from Int Boolean h = absurd (true≢false (sym h))
same_from Int IntArray h = absurd (true≢false (sym h))
same_from Int (Class d) h = absurd (true≢false (sym h))
same_from Boolean Int h = absurd (true≢false (sym h))
same_from Boolean IntArray h = absurd (true≢false (sym h))
same_from Boolean (Class d) h = absurd (true≢false (sym h))
same_from IntArray Int h = absurd (true≢false (sym h))
same_from IntArray Boolean h = absurd (true≢false (sym h))
same_from IntArray (Class d) h = absurd (true≢false (sym h))
same_from (Class c) Int h = absurd (true≢false (sym h))
same_from (Class c) Boolean h = absurd (true≢false (sym h))
same_from (Class c) IntArray h = absurd (true≢false (sym h))

pub itself : (t : Ty) → same_type t t ≡ true
itself Int = refl
itself Boolean = refl
itself IntArray = refl
itself (Class c) = (bytes_eq-Decides c c).1 refl

pub types_from : (vs : List Variable) (ts : List Ty) → same_types vs ts ≡ true → map (λ (v : Variable). v.ty) vs ≡ ts
types_from [] [] h = refl
types_from [] (t ∷ ts) h = absurd (true≢false (sym h))
types_from (v ∷ vs) [] h = absurd (true≢false (sym h))
types_from (v ∷ vs) (t ∷ ts) h =
    let w = and_parts (same_type v.ty t) (same_types vs ts) h in
    ap₂ (λ (u : Ty) (us : List Ty). u ∷ us) (same_from v.ty t w.0) (types_from vs ts w.1)

pub types_itself : (vs : List Variable) → same_types vs (map (λ (v : Variable). v.ty) vs) ≡ true
types_itself [] = refl
types_itself (v ∷ vs) = and_from _ _ (itself v.ty) (types_itself vs)

-- the signature is that of the method
pub signature_from : (m : Method) (sig : Sig) → same_signature m sig ≡ true → sig ≡ sig_of m
signature_from m sig h =
    let w = and_parts (same_type m.returns sig.returns) (same_types m.formals sig.formals) h in
    let build : List Ty → Ty → Sig = λ formals returns. record { formals = formals; returns = returns } in
    ap₂ build (sym (types_from m.formals sig.formals w.1)) (sym (same_from m.returns sig.returns w.0))

pub signature_to : (m : Method) (sig : Sig) → sig ≡ sig_of m → same_signature m sig ≡ true
signature_to m sig e = ap (same_signature m) e ∙ and_from _ _ (itself m.returns) (types_itself m.formals)
