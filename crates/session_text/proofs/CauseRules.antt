-- Why the query of a key was executed, by the records of the key.
use Rattle.std.proofs.Common.{◌≡◌, ◌∙◌, inl, inr, ◌<◌, Bool, true, false, not, List, [], ◌∷◌, Option, Some, None, option_map, take, refl, sym, ap, subst, true≢false}
use Rattle.std.specs.Prelude.{◌==◌, ◌||◌, Contains, IfSome, IsSome, is_some, find, if◌then◌else◌}
use Rattle.std.specs.List.{list_any}
use Rattle.std.specs.Str.{bytes_eq}
use Rattle.std.proofs.lemmas.Option.{none-some, same_Some}
use Rattle.std.proofs.lemmas.List.Elements.{All-contains, All-from_recursion}
use Rattle.item_ids.specs.declared.key.Key.{Key}
use Rattle.item_ids.specs.declared.kind.Kind.{Kind}
use Rattle.item_ids.specs.Kinds.{number_of}
use Rattle.item_ids.specs.Keys.{kind_of}
use Rattle.item_ids.specs.Inputs.{is_input, rank}
use Rattle.item_ids.specs.KeyLists.{AreLower}
use Rattle.fingerprint.specs.Prints.{print_of}
use Rattle.sessions.specs.declared.mark.Mark.{Mark}
use Rattle.sessions.specs.declared.mark.Mark.TheVariants as marks
use Rattle.sessions.specs.Marks.{is_input_mark}
use Rattle.sessions.specs.Sessions.{Entry, SessionValue, FitsBehind, IsSession, entry_at, past_entry}
use Rattle.sessions.proofs.EntryRules.{found_at, has_key, has_lower, has_edge, has_record, some_map}
use Rattle.graph_rules.specs.Settings.{has_kind}
use Rattle.session_text.specs.declared.causes.cause.Cause.{Cause}
use Rattle.session_text.specs.declared.causes.cause.Cause.TheVariants.{New, Changed, Gone, Same, Green, Red, OtherProfile, NothingChanged}
use Rattle.session_text.specs.Causes.{IsOfEither, IsOtherInput, IsExplained, IsWhy, first_red, have_same_print, is_red, mark_at, red_key}
use Rattle.session_text.specs.Parts.{IsRunCause, fresh_cause, is_explained}

-- ---- kinds

-- a kind is one of a list
pub any_kind : (kinds : List Kind) (kind : Kind) → list_any (λ k. number_of k == number_of kind) kinds ≡ has_kind kinds kind
any_kind [] kind = refl
any_kind (k ∷ kinds) kind =
    elim (number_of k == number_of kind) as (λ b. (b || list_any (λ x. number_of x == number_of kind) kinds) ≡ (if b then true else has_kind kinds kind)) [
      | true ↦ refl
      | false ↦ any_kind kinds kind
    ]

-- ---- marks

pub mark_is : (now : SessionValue) (q : Key) (r : Entry) → entry_at now q ≡ Some r → mark_at now q ≡ Some r.mark
mark_is now q r is = ap (option_map (λ (x : Entry). x.mark)) is

some_is : {A : Type 0} (o : Option A) (x : A) → o ≡ Some x → IsSome o
some_is {A} o x e = subst (λ (p : Option A). IsSome p) (sym e) refl

-- ---- causes

-- of a key that the session before hasn't
pub fresh_is : (was : Option SessionValue) (now : SessionValue) (crossing : List Kind) (q : Key) (mark : Mark) → past_entry was q ≡ None → mark_at now q ≡ Some mark
    → IsWhy was now crossing q (fresh_cause mark)
fresh_is was now crossing q marks.Input none is = (none, inl is)
fresh_is was now crossing q marks.Executed none is = (none, inr is)
fresh_is was now crossing q marks.Green none is = is

-- of a key that is gone
pub gone_is : (was : Option SessionValue) (now : SessionValue) (crossing : List Kind) (q : Key) → IsOfEither was now q → entry_at now q ≡ None → IsWhy was now crossing q Gone
gone_is was now crossing q (inl had) none = (had, none)
gone_is was now crossing q (inr has) none = absurd (true≢false (sym has ∙ ap (λ (o : Option Entry). is_some o) none))

-- by the results of two records
pub red_is : (was : Option SessionValue) (now : SessionValue) (q : Key) (had r : Entry) → past_entry was q ≡ Some had → entry_at now q ≡ Some r
    → is_red was now q ≡ not (bytes_eq (print_of had.value) (print_of r.value))
red_is was now q had r old new =
    ap (λ (o : Option Entry). not (have_same_print o (entry_at now q))) old ∙ ap (λ (o : Option Entry). not (have_same_print (Some had) o)) new

pub run_is : (was : Option SessionValue) (now : SessionValue) (crossing : List Kind) (q : Key) (had : Entry) (red : Option Key) (crosses : Bool) → mark_at now q ≡ Some marks.Executed
    → past_entry was q ≡ Some had → first_red was now had ≡ red → has_kind crossing (kind_of q) ≡ crosses → (cause : Cause) → IsRunCause red crosses cause → IsWhy was now crossing q cause
run_is was now crossing q had red crosses mark old first kind (Red e) is = (mark, (had, old, first ∙ is))
run_is was now crossing q had red crosses mark old first kind OtherProfile is = (mark, (had, old, (first ∙ is.0, kind ∙ is.1)))
run_is was now crossing q had red crosses mark old first kind NothingChanged is = (mark, (had, old, (first ∙ is.0, kind ∙ is.1)))
run_is was now crossing q had red crosses mark old first kind New is = absurd is
run_is was now crossing q had red crosses mark old first kind Changed is = absurd is
run_is was now crossing q had red crosses mark old first kind Gone is = absurd is
run_is was now crossing q had red crosses mark old first kind Same is = absurd is
run_is was now crossing q had red crosses mark old first kind Green is = absurd is

-- ---- what is said

none_red : (now : Option Entry) → not (have_same_print None now) ≡ true
none_red now = refl

gone_red : (old : Option Entry) → not (have_same_print old None) ≡ true
gone_red None = refl
gone_red (Some had) = refl

module _ (was : Option SessionValue) (now : SessionValue) (session : IsSession now) (crossing : List Kind) (q : Key) where
  -- a key is marked as an input if it is one
  marked : (mark : Mark) → mark_at now q ≡ Some mark → is_input_mark mark ≡ is_input (kind_of q)
  marked mark is =
      let r = some_map (λ (x : Entry). x.mark) (entry_at now q) mark is in
      let x = has_record now session q r.0 r.1 in
      let fits : FitsBehind (take x.1 now.records) x.0 = subst (FitsBehind (take x.1 now.records)) x.3 (session.records x.1 x.0 x.2) in
      let key : x.0.key ≡ q = ap (λ (e : Entry). e.key) x.4 ∙ has_key now session q r.0 r.1 in
      let same : x.0.mark ≡ mark = ap (λ (e : Entry). e.mark) x.4 ∙ r.2 in
      sym (ap is_input_mark same) ∙ (fits.marked ∙ ap (λ (k : Key). is_input (kind_of k)) key)

  is_there : (mark : Mark) → mark_at now q ≡ Some mark → IsOfEither was now q
  is_there mark is = let r = some_map (λ (x : Entry). x.mark) (entry_at now q) mark is in inr (some_is (entry_at now q) r.0 r.1)

  other_input : mark_at now q ≡ Some marks.Input → is_red was now q ≡ true → IsExplained was now q
  other_input is red = inr (is_there marks.Input is, sym (marked marks.Input is), red)

  pub told_is : (cause : Cause) → IsWhy was now crossing q cause → is_explained (kind_of q) cause ≡ true → IsExplained was now q
  told_is New why t =
      elim why.1 [
        | inl input ↦ other_input input (ap (λ (o : Option Entry). not (have_same_print o (entry_at now q))) why.0)
        | inr run ↦ inl run
      ]
  told_is Changed why t = other_input why.1 why.2
  told_is Gone why t =
      inr (inl why.0, t, ap (λ (o : Option Entry). not (have_same_print (past_entry was q) o)) why.1 ∙ gone_red (past_entry was q))
  told_is Same why t = absurd cc
  told_is Green why t = absurd cc
  told_is (Red e) why t = inl why.0
  told_is OtherProfile why t = inl why.0
  told_is NothingChanged why t = inl why.0

  not_told : (mark : Mark) → mark_at now q ≡ Some mark → (mark ≡ marks.Executed → ⊥) → (IsOtherInput was now q → ⊥) → IsExplained was now q → ⊥
  not_told mark is other none (inl run) = other (same_Some mark marks.Executed (sym is ∙ run))
  not_told mark is other none (inr input) = none input

  pub untold_is : (cause : Cause) → IsWhy was now crossing q cause → is_explained (kind_of q) cause ≡ false → IsExplained was now q → ⊥
  untold_is New why t told = absurd cc
  untold_is Changed why t told = absurd cc
  untold_is Gone why t (inl run) = absurd (let e : mark_at now q ≡ None = ap (option_map (λ (x : Entry). x.mark)) why.1 in none-some marks.Executed (sym e ∙ run))
  untold_is Gone why t (inr input) = true≢false (sym input.1 ∙ t)
  untold_is Same why t told = not_told marks.Input why.0 (λ e. absurd cc) (λ input. true≢false (sym input.2 ∙ why.1)) told
  untold_is Green why t told = not_told marks.Green why (λ e. absurd cc) (λ input. true≢false (sym input.1 ∙ sym (marked marks.Green why))) told
  untold_is (Red e) why t told = absurd cc
  untold_is OtherProfile why t told = absurd cc
  untold_is NothingChanged why t told = absurd cc

-- ---- where a cause leads

key_found : (test : Key → Bool) (keys : List Key) (e : Key) → find test keys ≡ Some e → Contains keys e
key_found test keys e is = found_at test keys e is

-- a key that is red for another one was read for it in the session before
pub red_leads : (was : Option SessionValue) → IfSome was IsSession → (now : SessionValue) (crossing : List Kind) (q : Key) (cause : Cause) (e : Key) → IsWhy was now crossing q cause
    → red_key cause ≡ Some e → IsOfEither was now e × (rank e < rank q)
red_leads None session now crossing q (Red k) e why is = absurd (none-some why.1.0 why.1.1)
red_leads (Some s) session now crossing q (Red k) e why is =
    let had = why.1.0 in
    let read : Contains had.reads e = key_found (is_red (Some s) now) had.reads e (why.1.2 ∙ is) in
    let there = has_edge s session q had why.1.1 e read in
    let lower : AreLower q had.reads = has_lower s session q had why.1.1 in
    (inl (some_is (entry_at s e) there.0 there.1), All-contains (λ (k : Key). rank k < rank q) had.reads e (All-from_recursion (λ (k : Key). rank k < rank q) had.reads lower) read)
red_leads was session now crossing q New e why is = absurd (none-some e is)
red_leads was session now crossing q Changed e why is = absurd (none-some e is)
red_leads was session now crossing q Gone e why is = absurd (none-some e is)
red_leads was session now crossing q Same e why is = absurd (none-some e is)
red_leads was session now crossing q Green e why is = absurd (none-some e is)
red_leads was session now crossing q OtherProfile e why is = absurd (none-some e is)
red_leads was session now crossing q NothingChanged e why is = absurd (none-some e is)
