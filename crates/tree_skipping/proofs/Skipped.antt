-- What is skipped is what reading passes, and skipping items one after the other, as a loop does.
use Rattle.std.proofs.Common.{◌≡◌, ℕ, zero, suc, ◌-◌, ◌+◌, ◌≤◌, ◌<◌, List, [], ◌∷◌, ◌++◌, Option, Some, None, Result, Ok, Err, refl, sym, ap, ◌∙◌, arith}
use Rattle.std.specs.Borrow.{Bor}
use Rattle.mj_tree.specs.Limits.{most_levels}
use Rattle.mj_tree.specs.Trees.{Expression, Statement}
use Rattle.mj_tree.specs.Trees as trees
use Rattle.mj_tree.specs.Views.{expressions_of, statements_of}
use Rattle.byte_readers.specs.declared.breach.Breach.{Breach}
use Rattle.byte_readers.specs.declared.breach.ReadError.{ReadError}
use Rattle.byte_readers.specs.declared.breach.ReadError.TheVariants as errors
use Rattle.byte_readers.specs.Reading.{◌>>=◌, Decoder, Fails, byte_at, four_at, eight_at, name_at, pair_at, made_at, list_from, list_at, any}
use Rattle.tree_spelling.specs.declared.tag.ExpTag.{ExpTag}
use Rattle.tree_spelling.specs.declared.tag.ExpTag.TheVariants as tags
use Rattle.tree_spelling.specs.declared.tag.StmtTag.{StmtTag}
use Rattle.tree_spelling.specs.declared.tag.StmtTag.TheVariants as statements
use Rattle.tree_spelling.specs.Tags.{exp_tag_of, stmt_tag_of}
use Rattle.tree_spelling.specs.Reading.{ty_at, made_variable, variable_at, literal_at, two_of, one_of, made_method, exps_at, stmts_at, exp_body_at, exp_behind_tag, exp_at, stmt_body_at, stmt_behind_tag, stmt_at, top_stmt_at, top_stmts_at, top_exp_at, method_at}
use Rattle.tree_skipping.specs.Skipping.{behind, Skips, Skipper, Leaves, items_left, list_left, variable_left, exp_body_left, exp_left_behind_tag, exp_left, stmt_body_left, stmt_left_behind_tag, stmt_left, method_left}

-- ---- a phrase by its tag

one_level : (room : ℕ) → (room ≡ 0 → ⊥) → room ≡ suc (room - 1)
one_level room h = omega (arith, h)

pub exp_by_tag : (room tag : ℕ) (bytes rest after : List ℕ) (which : ExpTag) → (room ≡ 0 → ⊥) → byte_at bytes ≡ Ok (tag, rest) → Some which ≡ exp_tag_of tag → behind (four_at rest) ≡ Ok after → exp_left room bytes ≡ exp_body_left (exp_left (room - 1)) which after
unfolding exp_left
exp_by_tag room tag bytes rest after which h b t m = ap (λ (r : ℕ). exp_left r bytes) (one_level room h) ∙ rw (b, ← t, m) refl

pub stmt_by_tag : (room tag : ℕ) (bytes rest after : List ℕ) (which : StmtTag) → (room ≡ 0 → ⊥) → byte_at bytes ≡ Ok (tag, rest) → Some which ≡ stmt_tag_of tag → behind (four_at rest) ≡ Ok after → stmt_left room bytes ≡ stmt_body_left (exp_left (room - 1)) (stmt_left (room - 1)) which after
unfolding stmt_left
stmt_by_tag room tag bytes rest after which h b t m = ap (λ (r : ℕ). stmt_left r bytes) (one_level room h) ∙ rw (b, ← t, m) refl

-- ---- items one after the other

pub goes_on : (part : Skipper) (count i : ℕ) (bytes after : List ℕ) (total : Result (List ℕ) Breach) → i < count → part bytes ≡ Ok after → items_left part (count - i) bytes ≡ total → items_left part (count - (i + 1)) after ≡ total
unfolding items_left
goes_on part count i bytes after total lt h so_far =
    let k : count - i ≡ suc (count - (i + 1)) = omega arith in
    let one : items_left part (count - i) bytes ≡ items_left part (count - (i + 1)) after = rw (k, h) refl in
    sym one ∙ so_far

pub ends : (e : ReadError) (part : Skipper) (count i : ℕ) (bytes : List ℕ) (total : Result (List ℕ) Breach) → i < count → Fails e (part bytes) → items_left part (count - i) bytes ≡ total → Fails e total
unfolding items_left
ends errors.Memory part count i bytes total lt h so_far = tt
ends (errors.Breach b) part count i bytes total lt h so_far =
    let k : count - i ≡ suc (count - (i + 1)) = omega arith in
    let one : items_left part (count - i) bytes ≡ Err b = rw (k, h) refl in
    sym so_far ∙ one

pub is_done : (part : Skipper) (count i : ℕ) (bytes : List ℕ) (total : Result (List ℕ) Breach) → count ≤ i → items_left part (count - i) bytes ≡ total → total ≡ Ok bytes
unfolding items_left
is_done part count i bytes total le so_far =
    let k : count - i ≡ 0 = omega arith in
    let one : items_left part (count - i) bytes ≡ Ok bytes = rw k refl in
    sym so_far ∙ one

-- ---- what is left behind what is read

-- what a skipper leaves of all bytes is what is left behind what a reader reads
record Passes {A : Type 0} (part : Decoder A) (skipper : Skipper) : Type 0 where
  pub passes : (bytes : List ℕ) → behind (part bytes) ≡ skipper bytes

behind_then : {A B : Type 0} (r : Result (A × List ℕ) Breach) (f : A × List ℕ → Result (B × List ℕ) Breach) (next : Skipper) → ((x : A × List ℕ) → behind (f x) ≡ next x.1) → behind (r >>= f) ≡ (behind r >>= next)
behind_then (Ok x) f next h = h x
behind_then (Err e) f next h = refl

behind_as : {A B : Type 0} (make : A → B) (r : Result (A × List ℕ) Breach) → behind (r >>= λ a. Ok (make a.0, a.1)) ≡ behind r
behind_as make (Ok x) = refl
behind_as make (Err e) = refl

passes_itself : {A : Type 0} (part : Decoder A) → Passes part (λ bytes. behind (part bytes))
passes_itself part = record { passes = λ bytes. refl }

passes_made : {A B : Type 0} {part : Decoder A} {skipper : Skipper} (make : A → B) → Passes part skipper → Passes (made_at make part) skipper
passes_made {A} {B} {part} make h = record { passes = λ bytes. behind_as make (part bytes) ∙ h.passes bytes }

passes_pair : {A B : Type 0} {first : Decoder A} {second : Decoder B} {one two : Skipper} → Passes first one → Passes second two → Passes (pair_at first second) (λ bytes. one bytes >>= two)
passes_pair {A} {B} {first} {second} {one} {two} h k = record {
  passes = λ bytes. behind_then (first bytes) (λ a. second a.1 >>= λ b. Ok ((a.0, b.0), b.1)) two (λ a. behind_as (λ b. (a.0, b)) (second a.1) ∙ k.passes a.1)
      ∙ ap (λ (r : Result (List ℕ) Breach). r >>= two) (h.passes bytes);
}

items_pass : {A : Type 0} (part : Decoder A) (skipper : Skipper) → Passes part skipper → (front : List A) (n : ℕ) (bytes : List ℕ) → behind (list_from part any front n bytes) ≡ items_left skipper n bytes
unfolding list_from items_left
items_pass part skipper h front zero bytes = refl
items_pass part skipper h front (suc n) bytes =
    behind_then (part bytes) (λ item. list_from part any (front ++ item.0 ∷ []) n item.1) (items_left skipper n) (λ item. items_pass part skipper h (front ++ item.0 ∷ []) n item.1)
    ∙ ap (λ (r : Result (List ℕ) Breach). r >>= items_left skipper n) (h.passes bytes)

module _ {A : Type 0} (part : Decoder A) (skipper : Skipper) (h : Passes part skipper) where
  counted_pass : (r : Result (ℕ × List ℕ) Breach) → behind (r >>= λ n. list_from part any [] n.0 n.1) ≡ (r >>= λ n. items_left skipper n.0 n.1)
  counted_pass (Ok n) = items_pass part skipper h [] n.0 n.1
  counted_pass (Err e) = refl

  list_passes : (bytes : List ℕ) → behind (list_at part any bytes) ≡ list_left skipper bytes
  unfolding list_at list_left
  list_passes bytes = counted_pass (eight_at bytes)

passes_list : {A : Type 0} {part : Decoder A} {skipper : Skipper} → Passes part skipper → Passes (list_at part any) (list_left skipper)
passes_list {A} {part} {skipper} h = record { passes = list_passes part skipper h }

passes_variable : Passes variable_at variable_left
passes_variable = passes_made made_variable (passes_pair (passes_itself name_at) (passes_pair (passes_itself ty_at) (passes_itself four_at)))

-- ---- expressions

module _ (part : Decoder Expression) (skipper : Skipper) (h : Passes part skipper) where
  passes_exps : Passes (exps_at part) (list_left skipper)
  passes_exps = passes_made expressions_of (passes_list h)

  exp_body_passes : (tag : ExpTag) (mark : ℕ) (bytes : List ℕ) → behind (exp_body_at part tag mark bytes) ≡ exp_body_left skipper tag bytes
  exp_body_passes (tags.Two two) mark bytes = (passes_made (λ x. two_of two mark x.0 x.1) (passes_pair h h)).passes bytes
  exp_body_passes (tags.One one) mark bytes = (passes_made (one_of one mark) h).passes bytes
  exp_body_passes tags.Call mark bytes = (passes_made (λ x. trees.Call mark x.0 x.1.0 x.1.1) (passes_pair h (passes_pair (passes_itself name_at) passes_exps))).passes bytes
  exp_body_passes tags.Literal mark bytes = behind_as (trees.Literal mark) (literal_at bytes)
  exp_body_passes (tags.Boolean value) mark bytes = refl
  exp_body_passes tags.Variable mark bytes = behind_as (trees.Named mark) (name_at bytes)
  exp_body_passes tags.This mark bytes = refl
  exp_body_passes tags.NewObject mark bytes = behind_as (trees.NewObject mark) (name_at bytes)

  exp_tag_passes : (bytes : List ℕ) (tag : Option ExpTag) (rest : List ℕ) → behind (exp_behind_tag part bytes tag rest) ≡ exp_left_behind_tag skipper bytes tag rest
  exp_tag_passes bytes None rest = refl
  exp_tag_passes bytes (Some tag) rest =
      behind_then (four_at rest) (λ mark. exp_body_at part tag mark.0 mark.1) (exp_body_left skipper tag) (λ mark. exp_body_passes tag mark.0 mark.1)

exp_passes : (room : ℕ) (bytes : List ℕ) → behind (exp_at room bytes) ≡ exp_left room bytes
unfolding exp_at exp_left
exp_passes zero [] = refl
exp_passes zero (b ∷ rest) = refl
exp_passes (suc room) [] = refl
exp_passes (suc room) (b ∷ rest) = exp_tag_passes (exp_at room) (exp_left room) (record { passes = exp_passes room }) (b ∷ rest) (exp_tag_of b) rest

passes_exp : (room : ℕ) → Passes (exp_at room) (exp_left room)
passes_exp room = record { passes = exp_passes room }

-- ---- statements

module _ (value : Decoder Expression) (part : Decoder Statement) (inner skipper : Skipper) (g : Passes value inner) (h : Passes part skipper) where
  passes_stmts : Passes (stmts_at part) (list_left skipper)
  passes_stmts = passes_made statements_of (passes_list h)

  stmt_body_passes : (tag : StmtTag) (mark : ℕ) (bytes : List ℕ) → behind (stmt_body_at value part tag mark bytes) ≡ stmt_body_left inner skipper tag bytes
  stmt_body_passes statements.Block mark bytes = (passes_made (trees.Block mark) passes_stmts).passes bytes
  stmt_body_passes statements.If mark bytes = (passes_made (λ x. trees.If mark x.0 x.1.0 x.1.1) (passes_pair g (passes_pair h h))).passes bytes
  stmt_body_passes statements.While mark bytes = (passes_made (λ x. trees.While mark x.0 x.1) (passes_pair g h)).passes bytes
  stmt_body_passes statements.Print mark bytes = (passes_made (trees.Print mark) g).passes bytes
  stmt_body_passes statements.Assign mark bytes = (passes_made (λ x. trees.Assign mark x.0 x.1.0 x.1.1) (passes_pair (passes_itself name_at) (passes_pair (passes_itself four_at) g))).passes bytes
  stmt_body_passes statements.Store mark bytes = (passes_made (λ x. trees.Store mark x.0 x.1.0 x.1.1.0 x.1.1.1) (passes_pair (passes_itself name_at) (passes_pair (passes_itself four_at) (passes_pair g g)))).passes bytes

  stmt_tag_passes : (bytes : List ℕ) (tag : Option StmtTag) (rest : List ℕ) → behind (stmt_behind_tag value part bytes tag rest) ≡ stmt_left_behind_tag inner skipper bytes tag rest
  stmt_tag_passes bytes None rest = refl
  stmt_tag_passes bytes (Some tag) rest =
      behind_then (four_at rest) (λ mark. stmt_body_at value part tag mark.0 mark.1) (stmt_body_left inner skipper tag) (λ mark. stmt_body_passes tag mark.0 mark.1)

stmt_passes : (room : ℕ) (bytes : List ℕ) → behind (stmt_at room bytes) ≡ stmt_left room bytes
unfolding stmt_at stmt_left
stmt_passes zero [] = refl
stmt_passes zero (b ∷ rest) = refl
stmt_passes (suc room) [] = refl
stmt_passes (suc room) (b ∷ rest) = stmt_tag_passes (exp_at room) (stmt_at room) (exp_left room) (stmt_left room) (passes_exp room) (record { passes = stmt_passes room }) (b ∷ rest) (stmt_tag_of b) rest

passes_stmt : (room : ℕ) → Passes (stmt_at room) (stmt_left room)
passes_stmt room = record { passes = stmt_passes room }

-- ---- what others skip

pub top_stmt_passes : (bytes : List ℕ) → behind (top_stmt_at bytes) ≡ stmt_left most_levels bytes
unfolding top_stmt_at
top_stmt_passes bytes = stmt_passes most_levels bytes

top_stmts_pass : (bytes : List ℕ) → behind (top_stmts_at bytes) ≡ list_left (stmt_left most_levels) bytes
unfolding top_stmts_at
top_stmts_pass bytes = (passes_made statements_of (passes_list (passes_stmt most_levels))).passes bytes

top_exp_passes : (bytes : List ℕ) → behind (top_exp_at bytes) ≡ exp_left most_levels bytes
unfolding top_exp_at
top_exp_passes bytes = exp_passes most_levels bytes

passes_top_stmts : Passes top_stmts_at (list_left (stmt_left most_levels))
passes_top_stmts = record { passes = top_stmts_pass }

passes_top_exp : Passes top_exp_at (exp_left most_levels)
passes_top_exp = record { passes = top_exp_passes }

pub method_passes : (bytes : List ℕ) → behind (method_at bytes) ≡ method_left bytes
unfolding method_at method_left
method_passes bytes =
    (passes_made made_method (passes_pair (passes_itself name_at)
    (passes_pair (passes_itself ty_at) (passes_pair (passes_list passes_variable)
    (passes_pair (passes_list passes_variable)
    (passes_pair passes_top_stmts (passes_pair passes_top_exp (passes_itself four_at)))))))).passes bytes

breach_of : {A : Type 0} (read : Result (A × List ℕ) Breach) (b : Breach) → behind read ≡ Err b → read ≡ Err b
breach_of (Ok x) b e = absurd cc
breach_of (Err a) b e = cc

-- a skipping function leaves what a skipper leaves, and so what is left behind what is read
pub skips : {A : Type 0} (result : Result (Bor (List ℕ)) ReadError) (read : Result (A × List ℕ) Breach) (left : Result (List ℕ) Breach) → behind read ≡ left → Leaves result left → Skips result read
skips (Ok rest) read left same h = same ∙ h
skips (Err errors.Memory) read left same h = tt
skips (Err (errors.Breach b)) read left same h = breach_of read b (same ∙ h)
