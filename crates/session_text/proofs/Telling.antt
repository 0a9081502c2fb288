-- What is said of keys in their order.
use Rattle.std.proofs.Common.{◌≡◌, ◌∙◌, inl, inr, List, [], ◌∷◌, ◌++◌, ℕ, zero, suc, ◌+◌, ◌≤◌, Option, Some, None, true, false, length, get_or, map, take, option_map, refl, sym, ap, subst, arith}
use Rattle.std.specs.Prelude.{◌<◌, Contains, IsSome, if◌then◌else◌}
use Rattle.std.specs.List.{AllByRecursion}
use Rattle.std.proofs.lemmas.Option.{none-some}
use Rattle.std.proofs.lemmas.List.{append-nil, map-append, take_all, take_more}
use Rattle.item_ids.specs.declared.key.Key.{Key}
use Rattle.item_ids.specs.declared.kind.Kind.{Kind}
use Rattle.item_ids.specs.Keys.{kind_of}
use Rattle.ordered_names.specs.Order.{IsAscendingBy}
use Rattle.ordered_names.proofs.Alike.{Contains-cases, Contains-first, Contains-later}
use Rattle.sessions.specs.declared.mark.Mark.{Mark}
use Rattle.sessions.specs.declared.mark.Mark.TheVariants.{Executed}
use Rattle.sessions.specs.Sessions.{Entry, SessionValue, IsSession, entry_at}
use Rattle.graph_rules.specs.Graphs.{KeyBefore}
use Rattle.session_text.specs.declared.causes.cause.Why.{Why}
use Rattle.session_text.specs.Causes.{AreWhys, IsOfEither, IsRightWhy, IsExplained}
use Rattle.session_text.specs.Parts.{AreKeysOfEither, is_explained, explained_part}
use Rattle.session_text.proofs.CauseRules.{told_is, untold_is}

-- a why for each of the keys of which something is said
pub data IsTelling (was : Option SessionValue) (now : SessionValue) (crossing : List Kind) : List Key → List Why → Type 0 where
  none : IsTelling was now crossing [] []
  untold : (q : Key) (keys : List Key) (whys : List Why) → (IsExplained was now q → ⊥) → IsTelling was now crossing keys whys → IsTelling was now crossing (q ∷ keys) whys
  told : (q : Key) (why : Why) (keys : List Key) (whys : List Why) → why.key.now ≡ q → IsExplained was now q → IsRightWhy was now crossing why → IsTelling was now crossing keys whys
      → IsTelling was now crossing (q ∷ keys) (why ∷ whys)

module _ (was : Option SessionValue) (now : SessionValue) (crossing : List Kind) where
  abbrev Tells : List Key → List Why → Type 0
  Tells keys whys = IsTelling was now crossing keys whys

  pub untold_more : (keys : List Key) (whys : List Why) (q : Key) → (IsExplained was now q → ⊥) → Tells keys whys → Tells (keys ++ q ∷ []) whys
  untold_more _ _ q silent none = untold q [] [] silent none
  untold_more _ _ q silent (untold k keys whys other t) = untold k (keys ++ q ∷ []) whys other (untold_more keys whys q silent t)
  untold_more _ _ q silent (told k why keys whys is tells right t) = told k why (keys ++ q ∷ []) whys is tells right (untold_more keys whys q silent t)

  pub told_more : (keys : List Key) (whys : List Why) (q : Key) (w : Why) → w.key.now ≡ q → IsExplained was now q → IsRightWhy was now crossing w → Tells keys whys
      → Tells (keys ++ q ∷ []) (whys ++ w ∷ [])
  told_more _ _ q w e y r none = told q w [] [] e y r none
  told_more _ _ q w e y r (untold k keys whys other t) = untold k (keys ++ q ∷ []) (whys ++ w ∷ []) other (told_more keys whys q w e y r t)
  told_more _ _ q w e y r (told k why keys whys is tells right t) = told k why (keys ++ q ∷ []) (whys ++ w ∷ []) is tells right (told_more keys whys q w e y r t)

  each : (keys : List Key) (whys : List Why) → Tells keys whys → AllByRecursion (λ why. IsExplained was now why.key.now × IsRightWhy was now crossing why) whys
  each _ _ none = tt
  each _ _ (untold k keys whys other t) = each keys whys t
  each _ _ (told k why keys whys is tells right t) = ((subst (IsExplained was now) (sym is) tells, right), each keys whys t)

  behind : (x : Key) (keys : List Key) (whys : List Why) → Tells keys whys → AllByRecursion (KeyBefore x) keys → AllByRecursion (λ why. KeyBefore x why.key.now) whys
  behind x _ _ none h = tt
  behind x _ _ (untold k keys whys other t) h = behind x keys whys t h.1
  behind x _ _ (told k why keys whys is tells right t) h = (subst (KeyBefore x) (sym is) h.0, behind x keys whys t h.1)

  ascending : (keys : List Key) (whys : List Why) → Tells keys whys → IsAscendingBy KeyBefore keys → IsAscendingBy (λ a b. KeyBefore a.key.now b.key.now) whys
  ascending _ _ none up = tt
  ascending _ _ (untold k keys whys other t) up = ascending keys whys t up.1
  ascending _ _ (told k why keys whys is tells right t) up =
      (subst (λ (x : Key). AllByRecursion (λ (w : Why). KeyBefore x w.key.now) whys) (sym is) (behind k keys whys t up.0), ascending keys whys t up.1)

  abbrev HasWhy : List Why → Key → Type 0
  HasWhy whys q = (why : Why) × Contains whys why × (why.key.now ≡ q)

  later : (w : Why) (whys : List Why) (q : Key) → HasWhy whys q → HasWhy (w ∷ whys) q
  later w whys q h = (h.0, Contains-later w whys h.0 h.1, h.2)

  all : (keys : List Key) (whys : List Why) → Tells keys whys → (q : Key) → Contains keys q → IsExplained was now q → HasWhy whys q
  all _ _ none q has tells = absurd (omega (arith, has.1))
  all _ _ (untold k keys whys other t) q has tells =
      elim (Contains-cases k keys q has) [
        | inl e ↦ absurd (other (subst (IsExplained was now) (sym e) tells))
        | inr i ↦ all keys whys t q i tells
      ]
  all _ _ (told k why keys whys is _ right t) q has tells =
      elim (Contains-cases k keys q has) [
        | inl e ↦ (why, Contains-first why whys, is ∙ e)
        | inr i ↦ later why whys q (all keys whys t q i tells)
      ]

  marked_there : (o : Option Entry) (mark : Mark) → option_map (λ (r : Entry). r.mark) o ≡ Some mark → IsSome o
  marked_there None mark e = absurd (none-some mark e)
  marked_there (Some r) mark e = refl

  either : (q : Key) → IsExplained was now q → IsOfEither was now q
  either q (inl run) = inr (marked_there (entry_at now q) Executed run)
  either q (inr input) = input.0

  pub are_whys : (keys : List Key) (whys : List Why) → AreKeysOfEither was now keys → Tells keys whys → AreWhys was now crossing whys
  are_whys keys whys are t = record {
    ascending = ascending keys whys t are.ascending;
    each = each keys whys t;
    all = λ q tells. all keys whys t q (are.all q (either q tells)) tells;
  }

  -- one more key
  telling_more : IsSession now → (keys : List Key) (whys : List Why) (q : Key) (w : Why) → w.key.now ≡ q → IsRightWhy was now crossing w → Tells keys whys → Tells (keys ++ q ∷ []) (whys ++ explained_part w)
  telling_more session keys whys q w e right t =
      (elim (is_explained (kind_of w.key.now) w.cause) as (λ b. is_explained (kind_of w.key.now) w.cause ≡ b → Tells (keys ++ q ∷ []) (whys ++ (if b then w ∷ [] else []))) [
        | true ↦ λ is. told_more keys whys q w e (subst (IsExplained was now) e (told_is was now session crossing w.key.now w.cause right.cause is)) right t
        | false ↦ λ is.
            subst (λ (ws : List Why). Tells (keys ++ q ∷ []) ws) (sym (append-nil whys))
            (untold_more keys whys q (λ told. untold_is was now session crossing w.key.now w.cause right.cause is (subst (IsExplained was now) (sym e) told)) t)
      ]) refl

  pub telling_next : {B : Type 0} (key_of : B → Key) (all : List B) (i : ℕ) (d : B) → i < length all → IsSession now → (whys : List Why) (w : Why) → w.key.now ≡ key_of (get_or all i d)
      → IsRightWhy was now crossing w → Tells (map key_of (take i all)) whys → Tells (map key_of (take (i + 1) all)) (whys ++ explained_part w)
  telling_next {B} key_of all i d lt session whys w e right t =
      let next : map key_of (take (i + 1) all) ≡ map key_of (take i all) ++ key_of (get_or all i d) ∷ []
      = ap (λ (xs : List B). map key_of xs) (take_more all i d lt) ∙ map-append key_of (take i all) (get_or all i d ∷ []) in
      subst (λ (ks : List Key). Tells ks (whys ++ explained_part w)) (sym next) (telling_more session (map key_of (take i all)) whys (key_of (get_or all i d)) w e right t)

  pub telling_ends : {B : Type 0} (key_of : B → Key) (all : List B) (i : ℕ) (whys : List Why) → length all ≤ i → AreKeysOfEither was now (map key_of all) → Tells (map key_of (take i all)) whys
      → AreWhys was now crossing whys
  telling_ends {B} key_of all i whys le are t =
      are_whys (map key_of all) whys are (subst (λ (xs : List B). Tells (map key_of xs) whys) (take_all i all le) t)

pub each_at : {B : Type 0} (P : Key → Type 0) (key_of : B → Key) (xs : List B) (i : ℕ) (d : B) → i < length xs → AllByRecursion P (map key_of xs) → P (key_of (get_or xs i d))
each_at P key_of [] i d lt h = absurd (omega (arith, lt))
each_at P key_of (x ∷ xs) zero d lt h = h.0
each_at P key_of (x ∷ xs) (suc i) d lt h = each_at P key_of xs i d (omega (arith, lt)) h.1
