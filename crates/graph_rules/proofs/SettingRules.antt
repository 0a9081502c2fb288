-- What is taken over, and which kinds are not.
use Rattle.std.proofs.Common.{◌≡◌, ◌↔◌, ◌⊎◌, inl, inr, Bool, true, false, List, [], ◌∷◌, cond, find, Some, None, refl, sym, ap, ◌∙◌}
use Rattle.std.specs.Prelude.{◌==◌, if◌then◌else◌, filter, IsTrue}
use Rattle.std.proofs.lemmas.Bool.{eqb-true}
use Rattle.std.proofs.lemmas.Option.{none-some}
use Rattle.profiles.specs.declared.profile.Profile.{Profile}
use Rattle.profiles.specs.declared.profile.Profile.TheVariants.{One, Two}
use Rattle.profiles.specs.Profiles.{same_profile}
use Rattle.item_ids.specs.declared.kind.Kind.{Kind}
use Rattle.item_ids.specs.declared.key.Key.{Key}
use Rattle.item_ids.specs.Kinds.{number_of, all_kinds, kind_with}
use Rattle.item_ids.specs.KindLaws.{kind_again, number_apart}
use Rattle.item_ids.specs.Keys.{kind_of}
use Rattle.recorder.specs.Backed.{ReadLaws, Queries, AreLawful}
use Rattle.recorder.proofs.Across.{between}
use Rattle.sessions.specs.Sessions.{SessionValue, Entry}
use Rattle.graph_rules.specs.Settings.{Setting, has_kind, kept, crossing_kinds, setting_of}

-- ---- what is taken over

-- what is taken over stands in the previous session
pub kept_held : (over : Setting) (q : Key) (r : Entry) → kept over q ≡ Some r → over.held q ≡ Some r
kept_held over q r is =
    (elim (has_kind over.crossing (kind_of q)) as (λ b. (if b then None else over.held q) ≡ Some r → over.held q ≡ Some r) [
      | true ↦ λ e. absurd (cc)
      | false ↦ λ e. e
    ]) is

-- and is of a kind that doesn't cross
pub kept_kind : (over : Setting) (q : Key) (r : Entry) → kept over q ≡ Some r → has_kind over.crossing (kind_of q) ≡ false
kept_kind over q r is =
    (elim (has_kind over.crossing (kind_of q)) as (λ b. (if b then None else over.held q) ≡ Some r → b ≡ false) [
      | true ↦ λ e. absurd (cc)
      | false ↦ λ e. refl
    ]) is

-- nothing is taken over of a key that isn't in the previous session
pub kept_none : (over : Setting) (q : Key) → over.held q ≡ None → kept over q ≡ None
kept_none over q none =
    elim (has_kind over.crossing (kind_of q)) as (λ b. (if b then None else over.held q) ≡ None) [ true ↦ refl | false ↦ none ]

-- nor of one of a kind that crosses
pub kept_across : (over : Setting) (q : Key) → has_kind over.crossing (kind_of q) ≡ true → kept over q ≡ None
kept_across over q crossing = ap (λ b. if b then None else over.held q) crossing

-- of any other key that the previous session has, its record there
pub kept_some : (over : Setting) (q : Key) (r : Entry) → has_kind over.crossing (kind_of q) ≡ false → over.held q ≡ Some r → kept over q ≡ Some r
kept_some over q r no_crossing found = ap (λ b. if b then None else over.held q) no_crossing ∙ found

-- ---- which kinds cross

-- a kind whose number is found is there
has_found : (ks : List Kind) (k j : Kind) → find (λ x. number_of x == number_of k) ks ≡ Some j → has_kind ks k ≡ true
has_found [] k j e = absurd (none-some j e)
has_found (x ∷ ks) k j e =
    (elim (number_of x == number_of k) as (λ b. cond b (Some x) (find (λ y. number_of y == number_of k) ks) ≡ Some j → (if b then true else has_kind ks k) ≡ true) [
      | true ↦ λ _. refl
      | false ↦ λ rest. has_found ks k j rest
    ]) e

has_all : (k : Kind) → has_kind all_kinds k ≡ true
unfolding kind_with
has_all k = has_found all_kinds k k (kind_again k)

-- one more kind in the list that is filtered
filter_more : (by_profile : Kind → Bool) (x : Kind) (ks : List Kind) (k : Kind) → has_kind (filter by_profile ks) k ≡ (if by_profile k then has_kind ks k else false)
    → (a : Bool) → by_profile x ≡ a → (b : Bool) → (number_of x == number_of k) ≡ b
    → has_kind (if a then x ∷ filter by_profile ks else filter by_profile ks) k ≡ (if by_profile k then (if b then true else has_kind ks k) else false)
filter_more by_profile x ks k rest true is true same =
    let e : by_profile k ≡ true = ap by_profile (sym (number_apart x k (eqb-true (number_of x) (number_of k) same))) ∙ is in
    rw (same, e) refl
filter_more by_profile x ks k rest true is false same = rw same rest
filter_more by_profile x ks k rest false is true same =
    let e : by_profile k ≡ false = ap by_profile (sym (number_apart x k (eqb-true (number_of x) (number_of k) same))) ∙ is in
    let none : has_kind (filter by_profile ks) k ≡ false = rw e at rest in
    rw e none
filter_more by_profile x ks k rest false is false same = rest

-- a filter has the kinds of the list that it takes
has_filter : (by_profile : Kind → Bool) (ks : List Kind) (k : Kind) → has_kind (filter by_profile ks) k ≡ (if by_profile k then has_kind ks k else false)
has_filter by_profile [] k = none (by_profile k)
  where
    none : (b : Bool) → false ≡ (if b then false else false)
    none true = refl
    none false = refl
has_filter by_profile (x ∷ ks) k =
    filter_more by_profile x ks k (has_filter by_profile ks k) (by_profile x) refl (number_of x == number_of k) refl

-- just the kinds that go by the profile cross, if the profiles differ
pub crosses_is : (by_profile : Kind → Bool) (profile : Profile) (s : SessionValue) (k : Kind)
    → has_kind (crossing_kinds by_profile profile (Some s)) k ≡ (if same_profile s.terms.profile profile then false else by_profile k)
unfolding crossing_kinds
crosses_is by_profile profile s k =
    elim (same_profile s.terms.profile profile) as (λ b. has_kind (if b then [] else filter by_profile all_kinds) k ≡ (if b then false else by_profile k)) [
      | true ↦ refl
      | false ↦ has_filter by_profile all_kinds k ∙ ap (λ b. if by_profile k then b else false) (has_all k) ∙ both (by_profile k)
    ]
  where
    both : (b : Bool) → (if b then true else false) ≡ b
    both true = refl
    both false = refl

pub one_profile : (a b : Profile) → same_profile a b ≡ true → a ≡ b
one_profile One One e = refl
one_profile Two Two e = refl
one_profile One Two e = absurd (cc)
one_profile Two One e = absurd (cc)

-- A kind that doesn't cross is one that doesn't go by the profile, or the profiles are one.
stays : (by_profile : Kind → Bool) (profile : Profile) (s : SessionValue) (k : Kind) → has_kind (crossing_kinds by_profile profile (Some s)) k ≡ false
    → (s.terms.profile ≡ profile) ⊎ (by_profile k ≡ false)
stays by_profile profile s k no_cross =
    (elim (same_profile s.terms.profile profile) as (λ b. same_profile s.terms.profile profile ≡ b → (if b then false else by_profile k) ≡ false → (s.terms.profile ≡ profile) ⊎ (by_profile k ≡ false)) [
      | true ↦ λ is _. inl (one_profile s.terms.profile profile is)
      | false ↦ λ _ e. inr e
    ]) refl (sym (crosses_is by_profile profile s k) ∙ no_cross)

-- a test of whether two profiles are one
pub same_test : (b : Bool) (x y : Profile) → (IsTrue b ↔ (x ≡ y)) → b ≡ same_profile x y
same_test true One One h = refl
same_test true Two Two h = refl
same_test true One Two h = let e = h.0 refl in cc
same_test true Two One h = let e = h.0 refl in cc
same_test false One One h = let e = h.1 refl in cc
same_test false Two Two h = let e = h.1 refl in cc
same_test false One Two h = refl
same_test false Two One h = refl

-- a kind crosses if the profiles differ and it goes by the profile
pub crossing_by : (by_profile : Kind → Bool) (profile : Profile) (s : SessionValue) (k : Kind) (same : Bool) → (IsTrue same ↔ (s.terms.profile ≡ profile))
    → (if same then false else by_profile k) ≡ has_kind (crossing_kinds by_profile profile (Some s)) k
crossing_by by_profile profile s k same h =
    ap (λ b. if b then false else by_profile k) (same_test same s.terms.profile profile h) ∙ sym (crosses_is by_profile profile s k)

-- the laws of reads hold from the previous session's profile to this one at what is taken over
pub kept_between : (queries : Queries) → AreLawful queries → (profile : Profile) (s : SessionValue) (q : Key) (r : Entry) → kept (setting_of queries.by_profile profile (Some s)) q ≡ Some r
    → ReadLaws (queries.mean s.terms.profile) (queries.reads s.terms.profile) (queries.mean profile) (queries.reads profile) q
kept_between queries laws profile s q r is =
    between queries laws s.terms.profile profile q
    (stays queries.by_profile profile s (kind_of q) (kept_kind (setting_of queries.by_profile profile (Some s)) q r is))
