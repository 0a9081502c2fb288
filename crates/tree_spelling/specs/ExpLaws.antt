-- An expression that is read is spelled so, and one that is spelled so is read.
use Rattle.std.proofs.Common.{◌≡◌, ℕ, zero, suc, ◌^◌, ◌<◌, false, cond, ltb, ◌≤◌, List, [], ◌∷◌, ◌++◌, length, Option, Some, None, Result, Ok, refl, ap, subst, ◌∙◌, append_assoc, arith}
use Rattle.std.proofs.lemmas.Bool.{ltb-false, le-ltb}
use Rattle.mj_tree.specs.Trees as trees
use Rattle.byte_readers.specs.declared.breach.Breach.{Breach}
use Rattle.byte_readers.specs.declared.breach.Breach.TheVariants.{NotCanonical}
use Rattle.byte_readers.specs.Spelling.{four, eight, name}
use Rattle.byte_readers.specs.Reading.{◌>>=◌, Decoder, not_canonical, byte_at, four_at}
use Rattle.byte_readers.specs.Lawful.{IsBytes, Takes, Lawful}
use Rattle.byte_readers.specs.Laws.{IsBytes-rest, bind_ok, guard_ok, ok_is, takes_nothing, made_again, lawful_four, lawful_name, lawful_pair}
use Rattle.mj_tree.specs.Trees.{Expression, Expressions, none, more}
use Rattle.mj_tree.specs.Views.{expressions_of}
use Rattle.tree_spelling.specs.declared.tag.ExpTag.{ExpTag}
use Rattle.tree_spelling.specs.declared.tag.ExpTag.TheVariants as tags
use Rattle.tree_spelling.specs.declared.tag.TwoParts.TheVariants as twos
use Rattle.tree_spelling.specs.declared.tag.OnePart.TheVariants as ones
use Rattle.tree_spelling.specs.Tags.{exp_byte, exp_tag_of}
use Rattle.tree_spelling.specs.TagLaws.{exp_byte_is, exp_tag_back}
use Rattle.tree_spelling.specs.Spelling.{node, exp, exps, count_exps}
use Rattle.tree_spelling.specs.Storable.{ExpFits, ExpsFit}
use Rattle.tree_spelling.specs.ListLaws.{IsListType, lawful_items}
use Rattle.tree_spelling.specs.NodeLaws.{IsRead, read_made, node_takes}
use Rattle.mj_lexer.specs.Bytes.{greatest_literal}
use Rattle.tree_spelling.specs.Reading.{literal_at, exps_at, exp_body_at, exp_behind_tag, exp_at}

-- ---- lists of expressions

list_of : Expressions → List Expression
list_of none = []
list_of (more e es) = e ∷ list_of es

of_list_of : (es : Expressions) → expressions_of (list_of es) ≡ es
unfolding list_of
of_list_of none = refl
of_list_of (more e es) = ap (more e) (of_list_of es)

are_listed : (room : ℕ) → IsListType expressions_of exp exps count_exps (ExpFits room)
    (ExpsFit room)
unfolding list_of
are_listed room = record {
  list_of = list_of;
  there = of_list_of;
  none_of = refl;
  more_of = λ e es. refl;
  spell_none = refl;
  spell_more = λ e es. refl;
  count_none = refl;
  count_more = λ e es. refl;
  fit_none = tt;
  fit_more = λ e es fits all. (fits, all);
  fit_parts = λ e es all. all;
}

pub lawful_exps : (room : ℕ) {part : Decoder Expression} → Lawful part exp (ExpFits room)
    → Lawful (exps_at part) (λ es. eight (count_exps es) ++ exps es)
    (λ es. (count_exps es < 2 ^ 64) × ExpsFit room es)
lawful_exps room law = lawful_items (are_listed room) law

-- ---- literals

lawful_literal : Lawful literal_at four (λ n. n ≤ greatest_literal)
unfolding literal_at
lawful_literal = record {
  takes = λ bytes n rest fits e.
      let a =
      bind_ok (four_at bytes) (λ n. cond (ltb greatest_literal n.0) (not_canonical bytes)
      (Ok n)) (n, rest) e in
      let g =
      guard_ok (ltb greatest_literal a.0.0) (NotCanonical (length bytes)) (Ok a.0)
      (n, rest) a.2 in
      let t = lawful_four.takes bytes n rest fits (a.1 ∙ g.1) in
      let is = ok_is a.0 (n, rest) g.1 in
      (t.0, omega (arith, ltb-false _ _ g.0, ap (λ (p : ℕ × List ℕ). p.0) is));
  again = λ n rest le.
      let h : ltb greatest_literal n ≡ false = le-ltb _ _ le in
      rw (lawful_four.again n rest (omega (arith, le)), h) refl;
}

-- ---- one level

-- what follows a tag and a mark, and what was read there
abbrev Body : (room : ℕ) (tag : ExpTag) (mark : ℕ) (bytes : List ℕ) (t : Expression) (rest : List ℕ)
    → Type 0
Body room tag mark bytes t rest = IsRead exp (ExpFits (suc room)) (exp_byte tag) mark bytes t rest

abbrev done : {A : Type 0} → A → Result A Breach
done x = Ok x

body_leaf : (one : Expression) (room : ℕ) (tag : ExpTag) (mark : ℕ)
    → exp one ≡ node (exp_byte tag) mark [] → ExpFits (suc room) one
    → (bytes : List ℕ) (t : Expression) (rest : List ℕ) → IsBytes bytes
    → done {A = Expression × List ℕ} (one, bytes) ≡ done (t, rest) → Body room tag mark bytes t rest
body_leaf one room tag mark spelled fit bytes t rest fits e =
    subst (λ (x : Expression × List ℕ). Body room tag mark bytes x.0 x.1)
    (ok_is (one, bytes) (t, rest) e) record {
      text = [];
      takes = takes_nothing bytes fits;
      spelled = spelled;
      fits = fit;
    }

body_takes : (room : ℕ) (part : Decoder Expression) (law : Lawful part exp (ExpFits room))
    (tag : ExpTag) (mark : ℕ) → mark < 2 ^ 32 → (bytes : List ℕ) (t : Expression) (rest : List ℕ)
    → IsBytes bytes → exp_body_at part tag mark bytes ≡ Ok (t, rest)
    → Body room tag mark bytes t rest
body_takes room part law (tags.Two (twos.Binary operator)) mark lt bytes t rest fits e =
    read_made (lawful_pair law law) (λ x. trees.Binary operator mark x.0 x.1)
    (exp_byte (tags.Two (twos.Binary operator))) mark (λ _. refl) (λ a h. (lt, h)) bytes t rest
    fits e
body_takes room part law (tags.Two twos.Index) mark lt bytes t rest fits e =
    read_made (lawful_pair law law) (λ x. trees.Index mark x.0 x.1)
    (exp_byte (tags.Two twos.Index)) mark
    (λ _. refl) (λ a h. (lt, h)) bytes t rest fits e
body_takes room part law (tags.One ones.Length) mark lt bytes t rest fits e =
    read_made law (trees.Length mark) (exp_byte (tags.One ones.Length)) mark (λ _. refl)
    (λ a h. (lt, h))
    bytes t rest fits e
body_takes room part law (tags.One ones.NewArray) mark lt bytes t rest fits e =
    read_made law (trees.NewArray mark) (exp_byte (tags.One ones.NewArray)) mark (λ _. refl)
    (λ a h. (lt, h)) bytes t rest fits e
body_takes room part law (tags.One ones.Not) mark lt bytes t rest fits e =
    read_made law (trees.Not mark) (exp_byte (tags.One ones.Not)) mark (λ _. refl) (λ a h. (lt, h))
    bytes t rest fits e
body_takes room part law (tags.One ones.Parenthesized) mark lt bytes t rest fits e =
    read_made law (trees.Parenthesized mark) (exp_byte (tags.One ones.Parenthesized)) mark
    (λ _. refl)
    (λ a h. (lt, h)) bytes t rest fits e
body_takes room part law tags.Call mark lt bytes t rest fits e =
    read_made (lawful_pair law (lawful_pair lawful_name (lawful_exps room law)))
    (λ x. trees.Call mark x.0 x.1.0 x.1.1) (exp_byte tags.Call) mark (λ _. refl) (λ a h. (lt, h))
    bytes t rest fits e
body_takes room part law tags.Literal mark lt bytes t rest fits e =
    read_made lawful_literal (trees.Literal mark) (exp_byte tags.Literal) mark (λ _. refl)
    (λ a h. (lt, h)) bytes t rest fits e
body_takes room part law (tags.Boolean value) mark lt bytes t rest fits e =
    body_leaf (trees.Boolean mark value) room (tags.Boolean value) mark refl lt bytes t rest fits e
body_takes room part law tags.Variable mark lt bytes t rest fits e =
    read_made lawful_name (trees.Named mark) (exp_byte tags.Variable) mark (λ _. refl)
    (λ a h. (lt, h))
    bytes t rest fits e
body_takes room part law tags.This mark lt bytes t rest fits e =
    body_leaf (trees.This mark) room tags.This mark refl lt bytes t rest fits e
body_takes room part law tags.NewObject mark lt bytes t rest fits e =
    read_made lawful_name (trees.NewObject mark) (exp_byte tags.NewObject) mark (λ _. refl)
    (λ a h. (lt, h)) bytes t rest fits e

tagged_takes : (room : ℕ) (part : Decoder Expression) (law : Lawful part exp (ExpFits room))
    (whole : List ℕ) (b : ℕ) (o : Option ExpTag) → exp_tag_of b ≡ o
    → (bytes : List ℕ) (t : Expression) (rest : List ℕ) → IsBytes bytes
    → exp_behind_tag part whole o bytes ≡ Ok (t, rest)
    → Takes (b ∷ bytes) (exp t) rest × ExpFits (suc room) t
tagged_takes room part law whole b None is bytes t rest fits e = absurd cc
tagged_takes room part law whole b (Some tag) is bytes t rest fits e =
    let a = bind_ok (four_at bytes) (λ mark. exp_body_at part tag mark.0 mark.1) (t, rest) e in
    let m = lawful_four.takes bytes a.0.0 a.0.1 fits a.1 in
    let body = body_takes room part law tag a.0.0 m.1 a.0.1 t rest m.0.rest_fits a.2 in
    node_takes b (exp_byte tag) a.0.0 bytes a.0.1 t rest (exp_byte_is b tag is) m.0 body

-- an expression whose parts are read back
spelled_at : Decoder Expression → List ℕ → Result (Expression × List ℕ) Breach
spelled_at part bytes = byte_at bytes >>= λ tag. exp_behind_tag part bytes (exp_tag_of tag.0) tag.1

exp_takes : (room : ℕ) (part : Decoder Expression) (law : Lawful part exp (ExpFits room))
    (bytes : List ℕ) (t : Expression) (rest : List ℕ) → IsBytes bytes
    → spelled_at part bytes ≡ Ok (t, rest) → Takes bytes (exp t) rest × ExpFits (suc room) t
unfolding spelled_at
exp_takes room part law [] t rest fits e = absurd cc
exp_takes room part law (b ∷ bytes) t rest fits e =
    tagged_takes room part law (b ∷ bytes) b (exp_tag_of b) refl bytes t rest
    (IsBytes-rest b bytes fits) e

-- behind a tag and a mark the rest is read
at_body : (part : Decoder Expression) (tag : ExpTag) (mark : ℕ) (text rest : List ℕ) → mark < 2 ^ 32
    → spelled_at part (node (exp_byte tag) mark text ++ rest)
    ≡ exp_body_at part tag mark (text ++ rest)
unfolding spelled_at
at_body part tag mark text rest lt =
    let whole = node (exp_byte tag) mark text ++ rest in
    ap (λ (o : Option ExpTag). exp_behind_tag part whole o ((four mark ++ text) ++ rest))
    (exp_tag_back tag)
    ∙ ap (exp_behind_tag part whole (Some tag)) (append_assoc (four mark) text rest)
    ∙ rw (lawful_four.again mark (text ++ rest) lt) refl

exp_again : (room : ℕ) (part : Decoder Expression) (law : Lawful part exp (ExpFits room))
    (t : Expression) (rest : List ℕ) → ExpFits (suc room) t
    → spelled_at part (exp t ++ rest) ≡ Ok (t, rest)
exp_again room part law (trees.Binary operator mark left right) rest h =
    at_body part (tags.Two (twos.Binary operator)) mark (exp left ++ exp right) rest h.0
    ∙ made_again (lawful_pair law law) (λ x. trees.Binary operator mark x.0 x.1)
    (left, right) rest h.1
exp_again room part law (trees.Index mark array index) rest h =
    at_body part (tags.Two twos.Index) mark (exp array ++ exp index) rest h.0
    ∙ made_again (lawful_pair law law) (λ x. trees.Index mark x.0 x.1) (array, index) rest h.1
exp_again room part law (trees.Length mark array) rest h =
    at_body part (tags.One ones.Length) mark (exp array) rest h.0
    ∙ made_again law (trees.Length mark) array rest h.1
exp_again room part law (trees.NewArray mark len) rest h =
    at_body part (tags.One ones.NewArray) mark (exp len) rest h.0
    ∙ made_again law (trees.NewArray mark) len rest h.1
exp_again room part law (trees.Not mark operand) rest h =
    at_body part (tags.One ones.Not) mark (exp operand) rest h.0
    ∙ made_again law (trees.Not mark) operand rest h.1
exp_again room part law (trees.Parenthesized mark inner) rest h =
    at_body part (tags.One ones.Parenthesized) mark (exp inner) rest h.0
    ∙ made_again law (trees.Parenthesized mark) inner rest h.1
exp_again room part law (trees.Call mark receiver method arguments) rest h =
    at_body part tags.Call mark (exp receiver
    ++ (name method ++ (eight (count_exps arguments) ++ exps arguments))) rest h.0
    ∙ made_again (lawful_pair law (lawful_pair lawful_name (lawful_exps room law)))
    (λ x. trees.Call mark x.0 x.1.0 x.1.1) (receiver, (method, arguments)) rest h.1
exp_again room part law (trees.Literal mark value) rest h =
    at_body part tags.Literal mark (four value) rest h.0
    ∙ made_again lawful_literal (trees.Literal mark) value rest h.1
exp_again room part law (trees.Boolean mark value) rest h =
    at_body part (tags.Boolean value) mark [] rest h
exp_again room part law (trees.Named mark n) rest h =
    at_body part tags.Variable mark (name n) rest h.0
    ∙ made_again lawful_name (trees.Named mark) n rest h.1
exp_again room part law (trees.This mark) rest h = at_body part tags.This mark [] rest h
exp_again room part law (trees.NewObject mark class) rest h =
    at_body part tags.NewObject mark (name class) rest h.0
    ∙ made_again lawful_name (trees.NewObject mark) class rest h.1

never : (bytes : List ℕ) (t : Expression) (rest : List ℕ) → exp_at 0 bytes ≡ Ok (t, rest) → ⊥
unfolding exp_at
never [] t rest e = cc
never (b ∷ bytes) t rest e = cc

pub lawful_exp : (room : ℕ) → Lawful (exp_at room) exp (ExpFits room)
unfolding exp_at spelled_at
lawful_exp zero = record {
  takes = λ bytes t rest fits e. absurd (never bytes t rest e);
  again = λ t rest h. absurd h;
}
lawful_exp (suc room) = record {
  takes = exp_takes room (exp_at room) (lawful_exp room);
  again = exp_again room (exp_at room) (lawful_exp room);
}
