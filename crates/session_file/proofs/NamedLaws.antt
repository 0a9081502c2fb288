-- Keys by their kinds and names.
use Rattle.std.proofs.Common.{◌≡◌, ℕ, ◌<◌, ◌&&◌, Bool, true, false, cond, eqb, List, [], ◌∷◌, length, Option, Some, None, refl, sym, ap, subst, ◌∙◌, arith}
use Rattle.std.specs.Prelude.{IfSome, is_some}
use Rattle.std.specs.Bool.{beq}
use Rattle.std.specs.Cmp.{booleans_Decides}
use Rattle.std.specs.Str.{is_utf8}
use Rattle.std.proofs.lemmas.Bool.{eqb-true, and_parts}
use Rattle.std.proofs.lemmas.Option.{cond_some}
use Rattle.std.proofs.lemmas.Str.{IsUtf8-nil, is_utf8-from_IsUtf8}
use Rattle.item_ids.specs.declared.kind.Kind.{Kind}
use Rattle.item_ids.specs.Kinds.{number_of, all_kinds, kind_with, has_class, has_member, text_of}
use Rattle.item_ids.specs.KindLaws.{kind_again}
use Rattle.item_ids.specs.declared.key.Key.{Key}
use Rattle.item_ids.specs.Keys.{kind_of, class_of, member_of, class_text, member_text, IsKey}
use Rattle.byte_readers.specs.Names.{IsName}
use Rattle.byte_readers.specs.Laws.{found_passes}
use Rattle.sessions.specs.declared.mark.Mark.{Mark}
use Rattle.sessions.specs.declared.mark.Mark.TheVariants.{Input, Executed, Green}
use Rattle.sessions.specs.Marks.{mark_number}
use Rattle.item_ids.specs.KeyShapes.{key_of_parts, name_if, has_parts, is_of_its_parts}
use Rattle.session_file.specs.Keys.{mark_with, name_with, are_names, key_of_kind, key_of_some, key_with}

kept : {A : Type 0} (b : Bool) (x : Option A) (y : A) → cond b x None ≡ Some y → (b ≡ true) × (x ≡ Some y)
kept true x y e = (refl, e)
kept false x y e = absurd cc

no_name : (bytes : List ℕ) → beq (is_some (name_with bytes)) false ≡ true → [] ≡ bytes
no_name [] e = refl
no_name (b ∷ bytes) e = absurd cc

a_name : (bytes : List ℕ) → beq (is_some (name_with bytes)) true ≡ true → length bytes < 256 → is_utf8 bytes ≡ true → IsName bytes
a_name [] e short text = absurd cc
a_name (b ∷ bytes) e short text = record { some = omega arith; short = omega (arith, short); text = text }

-- a name that is there exactly if there is to be one
text_is : (b : Bool) (bytes : List ℕ) → beq (is_some (name_with bytes)) b ≡ true → text_of (name_if b bytes) ≡ bytes
text_is true bytes e = refl
text_is false bytes e = no_name bytes e

is_name : (b : Bool) (bytes : List ℕ) → beq (is_some (name_with bytes)) b ≡ true → length bytes < 256 → is_utf8 bytes ≡ true → IfSome (name_if b bytes) IsName
is_name true bytes e short text = a_name bytes e short text
is_name false bytes e short text = tt

-- what stands for a key, and what it keeps in its type
pub record IsKeyOf (n : ℕ) (c m : List ℕ) (key : Key) : Type 0 where
  pub kind : number_of (kind_of key) ≡ n
  pub class : class_text key ≡ c
  pub member : member_text key ≡ m
  pub names : IsKey key

kind_is : (n : ℕ) (kind : Kind) → kind_with n ≡ Some kind → number_of kind ≡ n
unfolding kind_with
kind_is n kind e = eqb-true _ _ (found_passes (λ (k : Kind). eqb (number_of k) n) all_kinds kind e)

key_in : (n : ℕ) (found : Option Kind) (c m : List ℕ) (key : Key) → found ≡ kind_with n → length c < 256 → length m < 256 → key_of_some found c m ≡ Some key → IsKeyOf n c m key
key_in n None c m key is short_c short_m e = absurd cc
key_in n (Some kind) c m key is short_c short_m e =
    let t = kept (is_utf8 c && is_utf8 m) (key_of_kind kind c m) key e in
    let texts = and_parts (is_utf8 c) (is_utf8 m) t.0 in
    let k = cond_some (are_names kind (name_with c) (name_with m)) (key_of_parts kind c m) key t.1 in
    let fit = and_parts (beq (is_some (name_with c)) (has_class kind)) (beq (is_some (name_with m)) (has_member kind)) k.0 in
    let has = has_parts kind c m in
    subst (IsKeyOf n c m) k.1 (record {
      kind = ap number_of has.of_kind ∙ kind_is n kind (sym is);
      class = ap text_of has.class_is ∙ text_is (has_class kind) c fit.0;
      member = ap text_of has.member_is ∙ text_is (has_member kind) m fit.1;
      names = record {
        class = rw has.class_is (is_name (has_class kind) c fit.0 short_c texts.0);
        member = rw has.member_is (is_name (has_member kind) m fit.1 short_m texts.1);
      };
    })

pub key_takes : (n : ℕ) (c m : List ℕ) (key : Key) → length c < 256 → length m < 256 → key_with n c m ≡ Some key → IsKeyOf n c m key
unfolding key_with
key_takes n c m key short_c short_m e = key_in n (kind_with n) c m key refl short_c short_m e

pub mark_takes : (n : ℕ) (mark : Mark) → mark_with n ≡ Some mark → mark_number mark ≡ n
unfolding mark_with
mark_takes n mark e = eqb-true _ _ (found_passes (λ (t : Mark). eqb (mark_number t) n) (Input ∷ Executed ∷ Green ∷ []) mark e)

text_again : (name : Option (List ℕ)) → IfSome name IsName → is_utf8 (text_of name) ≡ true
text_again None h = is_utf8-from_IsUtf8 [] IsUtf8-nil
text_again (Some name) h = h.text

name_again : (name : Option (List ℕ)) → IfSome name IsName → name_with (text_of name) ≡ name
name_again None h = refl
name_again (Some []) h = absurd (omega (arith, h.some))
name_again (Some (b ∷ bytes)) h = refl

pub key_again : (key : Key) → IsKey key → key_with (number_of (kind_of key)) (class_text key) (member_text key) ≡ Some key
unfolding key_with
key_again key h =
    let is = is_of_its_parts key in
    rw (kind_again (kind_of key), text_again (class_of key) h.class, text_again (member_of key) h.member, name_again (class_of key) h.class, name_again (member_of key) h.member, (booleans_Decides _ _).1 is.names.0, (booleans_Decides _ _).1 is.names.1, is.made) refl
