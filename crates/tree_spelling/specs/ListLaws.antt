-- Lists that a tree holds: what is read of one is spelled there, and each spelling is read back.
use Rattle.std.proofs.Common.{◌≡◌, ℕ, suc, ◌<◌, ◌^◌, List, [], ◌∷◌, ◌++◌, length, refl, sym, ap, subst, ◌∙◌, arith}
use Rattle.std.specs.List.{flat_map, AllByRecursion}
use Rattle.std.proofs.lemmas.List.Concat.{flat_map-cons}
use Rattle.byte_readers.specs.Spelling.{eight}
use Rattle.byte_readers.specs.Reading.{Decoder, any, list_at, made_at}
use Rattle.byte_readers.specs.Lawful.{Lawful}
use Rattle.byte_readers.specs.Laws.{lawful_list, lawful_made, lawful_as, lawful_where, any_admits}

-- a type of lists, with how such a list is spelled and counted and when it fits, item by item
pub record IsListType {A As : Type 0} (of : List A → As) (spell : A → List ℕ)
    (spell_all : As → List ℕ) (count : As → ℕ) (Fits : A → Type 0)
    (AllFit : As → Type 0) : Type 0 where
  pub list_of : As → List A
  pub there : (items : As) → of (list_of items) ≡ items
  pub none_of : list_of (of []) ≡ []
  pub more_of : (a : A) (items : List A) → list_of (of (a ∷ items)) ≡ a ∷ list_of (of items)
  pub spell_none : spell_all (of []) ≡ []
  pub spell_more : (a : A) (items : List A)
      → spell_all (of (a ∷ items)) ≡ spell a ++ spell_all (of items)
  pub count_none : count (of []) ≡ 0
  pub count_more : (a : A) (items : List A) → count (of (a ∷ items)) ≡ suc (count (of items))
  pub fit_none : AllFit (of [])
  pub fit_more : (a : A) (items : List A) → Fits a → AllFit (of items) → AllFit (of (a ∷ items))
  pub fit_parts : (a : A) (items : List A) → AllFit (of (a ∷ items)) → Fits a × AllFit (of items)

back : {A As : Type 0} {of : List A → As} {spell : A → List ℕ} {spell_all : As → List ℕ}
    {count : As → ℕ} {Fits : A → Type 0} {AllFit : As → Type 0}
    (is : IsListType of spell spell_all count Fits AllFit) (items : List A)
    → is.list_of (of items) ≡ items
back is [] = is.none_of
back is (a ∷ items) = is.more_of a items ∙ ap (λ as1. a ∷ as1) (back is items)

spelled : {A As : Type 0} {of : List A → As} {spell : A → List ℕ} {spell_all : As → List ℕ}
    {count : As → ℕ} {Fits : A → Type 0} {AllFit : As → Type 0}
    (is : IsListType of spell spell_all count Fits AllFit) (items : List A)
    → spell_all (of items) ≡ flat_map spell items
spelled is [] = is.spell_none
spelled {A} {As} {of} {spell} is (a ∷ items) =
    is.spell_more a items ∙ ap (λ bytes. spell a ++ bytes) (spelled is items)
    ∙ sym (flat_map-cons spell a items)

counted : {A As : Type 0} {of : List A → As} {spell : A → List ℕ} {spell_all : As → List ℕ}
    {count : As → ℕ} {Fits : A → Type 0} {AllFit : As → Type 0}
    (is : IsListType of spell spell_all count Fits AllFit) (items : List A)
    → count (of items) ≡ length items
counted is [] = is.count_none
counted is (a ∷ items) = is.count_more a items ∙ ap (λ n. suc n) (counted is items)

all_fit : {A As : Type 0} {of : List A → As} {spell : A → List ℕ} {spell_all : As → List ℕ}
    {count : As → ℕ} {Fits : A → Type 0} {AllFit : As → Type 0}
    (is : IsListType of spell spell_all count Fits AllFit) (items : List A)
    → AllByRecursion Fits items → AllFit (of items)
all_fit is [] h = is.fit_none
all_fit is (a ∷ items) h = is.fit_more a items h.0 (all_fit is items h.1)

each_fits : {A As : Type 0} {of : List A → As} {spell : A → List ℕ} {spell_all : As → List ℕ}
    {count : As → ℕ} {Fits : A → Type 0} {AllFit : As → Type 0}
    (is : IsListType of spell spell_all count Fits AllFit) (items : List A) → AllFit (of items)
    → AllByRecursion Fits items
each_fits is [] h = tt
each_fits is (a ∷ items) h =
    let parts = is.fit_parts a items h in (parts.0, each_fits is items parts.1)

pub lawful_items : {A As : Type 0} {of : List A → As} {spell : A → List ℕ} {spell_all : As → List ℕ}
    {count : As → ℕ} {Fits : A → Type 0} {AllFit : As → Type 0}
    → IsListType of spell spell_all count Fits AllFit
    → {part : Decoder A} → Lawful part spell Fits
    → Lawful (λ bytes. made_at of (list_at part any) bytes)
    (λ items. eight (count items) ++ spell_all items)
    (λ items. (count items < 2 ^ 64) × AllFit items)
lawful_items {A} {As} {of} {spell} {spell_all} {count} {Fits} {AllFit} is law =
    let counts : (items : As) → length (is.list_of items) ≡ count items =
    λ items. sym (counted is (is.list_of items)) ∙ ap count (is.there items) in
    let spells : (items : As) → spell_all items ≡ flat_map spell (is.list_of items) =
    λ items. ap spell_all (sym (is.there items)) ∙ spelled is (is.list_of items) in
    lawful_where
    (lawful_as (lawful_made (lawful_list law any) of is.list_of (back is) is.there)
    (λ items. eight (count items) ++ spell_all items)
    (λ items. rw (sym (counts items), spells items) refl))
    (λ items h. (
      omega (arith, counts items, h.few),
      subst AllFit (is.there items) (all_fit is (is.list_of items) h.fit),
    ))
    (λ items h. record {
      few = omega (arith, counts items, h.0);
      fit = each_fits is (is.list_of items) (subst AllFit (sym (is.there items)) h.1);
      admitted = any_admits [] (is.list_of items);
    })
