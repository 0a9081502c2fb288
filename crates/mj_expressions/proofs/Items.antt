-- A loop that reads parts as long as a test holds.
use Rattle.std.proofs.Common.{◌≡◌, ◌↔◌, ℕ, zero, suc, ◌+◌, ◌<◌, ◌≤◌, Bool, true, false, List, [], ◌∷◌, ◌++◌, length, Option, Some, None, Result, Ok, Err, refl, sym, ap, ◌∙◌, arith, append_assoc, append-nil}
use Rattle.std.specs.Prelude.{IfOk, IfErr}
use Rattle.mj_lexer.specs.declared.token.Token.{Token}
use Rattle.mj_lexer.specs.declared.token.Terminal.TheVariants as terminals
use Rattle.mj_expressions.specs.declared.fault.ParseFault.{ParseFault}
use Rattle.mj_expressions.specs.declared.fault.ParseFault.TheVariants.{NotAFile, TooDeep, OutOfMemory}
use Rattle.mj_expressions.specs.Tokens.{has}
use Rattle.mj_expressions.specs.Steps.{◌>>=◌, when, PartParser, items_from, behind_comma, at_comma, more_listed, listed_at, FailsToParse, Finds}

-- these items before those that are still read
abbrev pub with_front : {A : Type 0} → List A → Option (List A × ℕ) → Option (List A × ℕ)
with_front front found = found >>= λ y. Some (front ++ y.0, y.1)

-- With gas enough, the items and what is still read are this in all.
abbrev pub ItemsLead : {A : Type 0} → PartParser A → (ℕ → Bool) → ℕ → List A → ℕ → Option (List A × ℕ) → Type 0
ItemsLead part goes_on end front j total = (gas : ℕ) → end < gas + j → with_front front (items_from gas part goes_on j) ≡ total

front_then : {A : Type 0} (front : List A) (x : A) (found : Option (List A × ℕ)) → with_front front (found >>= λ y. Some (x ∷ y.0, y.1)) ≡ with_front (front ++ x ∷ []) found
front_then front x None = refl
front_then {A} front x (Some y) = ap (λ (l : List A). Some (l, y.1)) (sym (append_assoc front (x ∷ []) y.0))

no_front : {A : Type 0} (found : Option (List A × ℕ)) → found ≡ with_front [] found
no_front None = refl
no_front (Some y) = refl

module _ {A : Type 0} (part : PartParser A) (goes_on : ℕ → Bool) (end : ℕ) (front : List A) (j : ℕ) where
  pub items_end : j ≤ end → goes_on j ≡ false → ItemsLead part goes_on end front j (Some (front, j))
  unfolding items_from
  items_end within e zero enough = absurd (omega arith)
  items_end within e (suc gas) enough = rw (items_from, e) (ap (λ (l : List A). Some (l, j)) (append-nil front))

  pub items_fail : j ≤ end → goes_on j ≡ true → part j ≡ None → ItemsLead part goes_on end front j None
  unfolding items_from
  items_fail within e n zero enough = absurd (omega arith)
  items_fail within e n (suc gas) enough = rw (items_from, e, n) refl

  pub items_go_on : (x : A) (k : ℕ) (total : Option (List A × ℕ)) → j ≤ end → goes_on j ≡ true → part j ≡ Some (x, k) → j < k → ItemsLead part goes_on end (front ++ x ∷ []) k total → ItemsLead part goes_on end front j total
  unfolding items_from
  items_go_on x k total within e n onward leads zero enough = absurd (omega arith)
  items_go_on x k total within e n onward leads (suc gas) enough = rw (items_from, e, n) (front_then front x (items_from gas part goes_on k) ∙ leads gas (omega arith))

pub items_begin : {A : Type 0} (part : PartParser A) (goes_on : ℕ → Bool) (end i : ℕ) (total : Option (List A × ℕ)) → ItemsLead part goes_on end [] i total → items_from (suc end) part goes_on i ≡ total
items_begin part goes_on end i total leads = no_front (items_from (suc end) part goes_on i) ∙ leads (suc end) (omega arith)

-- ---- items between commas, up to the parenthesis that closes them

abbrev pub closed_list : {A : Type 0} → List Token → Option (List A × ℕ) → Option (List A × ℕ)
closed_list ts found = found >>= λ y. when (has ts y.1 terminals.RightParenthesis) (Some (y.0, y.1 + 1))

abbrev pub ListLeads : {A : Type 0} → PartParser A → List Token → List A → ℕ → Option (List A × ℕ) → Type 0
ListLeads part ts front j total = ItemsLead (behind_comma part) (at_comma ts) (length ts) front j total

first_then : {A : Type 0} (ts : List Token) (x : A) (found : Option (List A × ℕ)) → (found >>= λ y. when (has ts y.1 terminals.RightParenthesis) (Some (x ∷ y.0, y.1 + 1))) ≡ closed_list ts (with_front (x ∷ []) found)
first_then ts x None = refl
first_then ts x (Some y) = refl

pub list_from : {A : Type 0} (part : PartParser A) (ts : List Token) (k : ℕ) (x : A) (total : Option (List A × ℕ)) → ListLeads part ts (x ∷ []) k total → more_listed part ts (x, k) ≡ closed_list ts total
list_from part ts k x total leads = first_then ts x (items_from (suc (length ts)) (behind_comma part) (at_comma ts) k) ∙ ap (closed_list ts) (leads (suc (length ts)) (omega arith))

pub list_begins : {A : Type 0} (part : PartParser A) (ts : List Token) (i k : ℕ) (x : A) (total : Option (List A × ℕ)) → has ts i terminals.RightParenthesis ≡ false → part i ≡ Some (x, k) → ListLeads part ts (x ∷ []) k total → listed_at part ts i ≡ closed_list ts total
unfolding listed_at
list_begins part ts i k x total e n leads = rw (listed_at, e, n) (list_from part ts k x total leads)

pub list_empty : {A : Type 0} (part : PartParser A) (ts : List Token) (i : ℕ) → has ts i terminals.RightParenthesis ≡ true → listed_at part ts i ≡ Some ([], i + 1)
unfolding listed_at
list_empty part ts i e = rw (listed_at, e) refl

pub list_no_first : {A : Type 0} (part : PartParser A) (ts : List Token) (i : ℕ) → has ts i terminals.RightParenthesis ≡ false → part i ≡ None → listed_at part ts i ≡ None
unfolding listed_at
list_no_first part ts i e n = rw (listed_at, e, n) refl

module _ {A : Type 0} (part : PartParser A) (ts : List Token) (front : List A) (j : ℕ) (within : j ≤ length ts) where
  pub list_end : has ts j terminals.Comma ≡ false → ListLeads part ts front j (Some (front, j))
  list_end e = items_end (behind_comma part) (at_comma ts) (length ts) front j within e

  pub list_fail : has ts j terminals.Comma ≡ true → part (j + 1) ≡ None → ListLeads part ts front j None
  list_fail e n = items_fail (behind_comma part) (at_comma ts) (length ts) front j within e n

  pub list_go_on : (x : A) (k : ℕ) (total : Option (List A × ℕ)) → has ts j terminals.Comma ≡ true → part (j + 1) ≡ Some (x, k) → j < k → ListLeads part ts (front ++ x ∷ []) k total → ListLeads part ts front j total
  list_go_on x k total e n onward leads = items_go_on (behind_comma part) (at_comma ts) (length ts) front j x k total within e n onward leads

pub list_closes : {A : Type 0} (ts : List Token) (front : List A) (j : ℕ) → has ts j terminals.RightParenthesis ≡ true → closed_list ts (Some (front, j)) ≡ Some (front, j + 1)
list_closes ts front j e = rw e refl

pub list_open : {A : Type 0} (ts : List Token) (front : List A) (j : ℕ) → has ts j terminals.RightParenthesis ≡ false → closed_list ts (Some (front, j)) ≡ None
list_open ts front j e = rw e refl

-- the list's end, found by a function that looks for the parenthesis
pub list_ends : {X B A : Type 0} (r : Result X ParseFault) (items : X → B) (after : X → ℕ) (front : B) (view : B → List A) (More : X → Type 0) (ts : List Token) (j : ℕ) → IfOk r (λ x. (has ts j terminals.RightParenthesis ≡ true) × (items x ≡ front) × (after x ≡ j + 1) × More x) → IfErr r (λ e. (e ≡ NotAFile j) × (has ts j terminals.RightParenthesis ≡ false)) → Finds (λ x. (view (items x), after x)) r (closed_list ts (Some (view front, j)))
list_ends (Ok x) items after front view More ts j f g = rw (f.1, f.2) (list_closes ts (view front) j f.0)
list_ends (Err e) items after front view More ts j f g = rw g.0 (list_open ts (view front) j g.1)

-- if a part isn't found, the whole isn't
pub fails_on : {A B : Type 0} (e : ParseFault) (x : Option A) (y : Option B) → (x ≡ None → y ≡ None) → FailsToParse e x → FailsToParse e y
fails_on OutOfMemory x y f h = tt
fails_on (NotAFile k) x y f h = f h
fails_on TooDeep x y f h = f h

-- an error whose place is counted from another token
pub fails_behind : {A B : Type 0} (e f : ParseFault) (x : Option A) (y : Option B) → ((f ≡ OutOfMemory) ↔ (e ≡ OutOfMemory)) → (x ≡ None → y ≡ None) → FailsToParse e x → FailsToParse f y
fails_behind e OutOfMemory x y same g h = tt
fails_behind OutOfMemory (NotAFile k) x y same g h = absurd (let n = same.1 refl in cc)
fails_behind (NotAFile j) (NotAFile k) x y same g h = g h
fails_behind TooDeep (NotAFile k) x y same g h = g h
fails_behind OutOfMemory TooDeep x y same g h = absurd (let n = same.1 refl in cc)
fails_behind (NotAFile j) TooDeep x y same g h = g h
fails_behind TooDeep TooDeep x y same g h = g h
