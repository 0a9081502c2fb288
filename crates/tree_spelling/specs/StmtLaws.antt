-- A statement that is read is spelled so, and one that is spelled so is read.
use Rattle.std.proofs.Common.{◌≡◌, ℕ, zero, suc, ◌^◌, ◌<◌, List, [], ◌∷◌, ◌++◌, Option, Some, None, Result, Ok, refl, ap, ◌∙◌, append_assoc}
use Rattle.mj_tree.specs.Trees as trees
use Rattle.byte_readers.specs.declared.breach.Breach.{Breach}
use Rattle.byte_readers.specs.Spelling.{four, eight, name}
use Rattle.byte_readers.specs.Reading.{◌>>=◌, Decoder, byte_at, four_at}
use Rattle.byte_readers.specs.Lawful.{IsBytes, Takes, Lawful}
use Rattle.byte_readers.specs.Laws.{IsBytes-rest, bind_ok, made_again, lawful_four, lawful_name, lawful_pair}
use Rattle.mj_tree.specs.Trees.{Statement, Statements, done, next}
use Rattle.mj_tree.specs.Views.{statements_of}
use Rattle.tree_spelling.specs.declared.tag.StmtTag.{StmtTag}
use Rattle.tree_spelling.specs.declared.tag.StmtTag.TheVariants as tags
use Rattle.tree_spelling.specs.Tags.{stmt_byte, stmt_tag_of}
use Rattle.tree_spelling.specs.TagLaws.{stmt_byte_is, stmt_tag_back}
use Rattle.tree_spelling.specs.Spelling.{node, exp, stmt, stmts, count_stmts}
use Rattle.tree_spelling.specs.Storable.{StmtFits, StmtsFit}
use Rattle.tree_spelling.specs.Reading.{stmts_at, stmt_body_at, stmt_behind_tag, exp_at, stmt_at}
use Rattle.tree_spelling.specs.ListLaws.{IsListType, lawful_items}
use Rattle.tree_spelling.specs.NodeLaws.{IsRead, read_made, node_takes}
use Rattle.tree_spelling.specs.ExpLaws.{lawful_exp}

-- ---- lists of statements

list_of : Statements → List Statement
list_of done = []
list_of (next s ss) = s ∷ list_of ss

of_list_of : (ss : Statements) → statements_of (list_of ss) ≡ ss
unfolding list_of
of_list_of done = refl
of_list_of (next s ss) = ap (next s) (of_list_of ss)

are_listed : (room : ℕ) → IsListType statements_of stmt stmts count_stmts (StmtFits room)
    (StmtsFit room)
unfolding list_of
are_listed room = record {
  list_of = list_of;
  there = of_list_of;
  none_of = refl;
  more_of = λ s ss. refl;
  spell_none = refl;
  spell_more = λ s ss. refl;
  count_none = refl;
  count_more = λ s ss. refl;
  fit_none = tt;
  fit_more = λ s ss fits all. (fits, all);
  fit_parts = λ s ss all. all;
}

pub lawful_stmts : (room : ℕ) {part : Decoder Statement} → Lawful part stmt (StmtFits room)
    → Lawful (stmts_at part) (λ ss. eight (count_stmts ss) ++ stmts ss)
    (λ ss. (count_stmts ss < 2 ^ 64) × StmtsFit room ss)
lawful_stmts room law = lawful_items (are_listed room) law

-- ---- one level

-- what follows a tag and a mark, and what was read there
abbrev Body : (room : ℕ) (tag : StmtTag) (mark : ℕ) (bytes : List ℕ) (t : Statement) (rest : List ℕ)
    → Type 0
Body room tag mark bytes t rest = IsRead stmt (StmtFits (suc room)) (stmt_byte tag) mark bytes t
    rest

body_takes : (room : ℕ) (part : Decoder Statement) (law : Lawful part stmt (StmtFits room))
    (tag : StmtTag) (mark : ℕ) → mark < 2 ^ 32 → (bytes : List ℕ) (t : Statement) (rest : List ℕ)
    → IsBytes bytes → stmt_body_at (exp_at room) part tag mark bytes ≡ Ok (t, rest)
    → Body room tag mark bytes t rest
body_takes room part law tags.Block mark lt bytes t rest fits e =
    read_made (lawful_stmts room law) (trees.Block mark) (stmt_byte tags.Block) mark (λ _. refl)
    (λ a h. (lt, h)) bytes t rest fits e
body_takes room part law tags.If mark lt bytes t rest fits e =
    read_made (lawful_pair (lawful_exp room) (lawful_pair law law))
    (λ x. trees.If mark x.0 x.1.0 x.1.1) (stmt_byte tags.If) mark (λ _. refl) (λ a h. (lt, h))
    bytes t rest fits e
body_takes room part law tags.While mark lt bytes t rest fits e =
    read_made (lawful_pair (lawful_exp room) law) (λ x. trees.While mark x.0 x.1)
    (stmt_byte tags.While) mark (λ _. refl) (λ a h. (lt, h)) bytes t rest fits e
body_takes room part law tags.Print mark lt bytes t rest fits e =
    read_made (lawful_exp room) (trees.Print mark) (stmt_byte tags.Print) mark (λ _. refl)
    (λ a h. (lt, h))
    bytes t rest fits e
body_takes room part law tags.Assign mark lt bytes t rest fits e =
    read_made (lawful_pair lawful_name (lawful_pair lawful_four (lawful_exp room)))
    (λ x. trees.Assign mark x.0 x.1.0 x.1.1) (stmt_byte tags.Assign) mark (λ _. refl)
    (λ a h. (lt, h))
    bytes t rest fits e
body_takes room part law tags.Store mark lt bytes t rest fits e =
    read_made (lawful_pair lawful_name
    (lawful_pair lawful_four (lawful_pair (lawful_exp room) (lawful_exp room))))
    (λ x. trees.Store mark x.0 x.1.0 x.1.1.0 x.1.1.1) (stmt_byte tags.Store) mark (λ _. refl)
    (λ a h. (lt, h)) bytes t rest fits e

tagged_takes : (room : ℕ) (part : Decoder Statement) (law : Lawful part stmt (StmtFits room))
    (whole : List ℕ) (b : ℕ) (o : Option StmtTag) → stmt_tag_of b ≡ o
    → (bytes : List ℕ) (t : Statement) (rest : List ℕ) → IsBytes bytes
    → stmt_behind_tag (exp_at room) part whole o bytes ≡ Ok (t, rest)
    → Takes (b ∷ bytes) (stmt t) rest × StmtFits (suc room) t
tagged_takes room part law whole b None is bytes t rest fits e = absurd cc
tagged_takes room part law whole b (Some tag) is bytes t rest fits e =
    let a =
    bind_ok (four_at bytes) (λ mark. stmt_body_at (exp_at room) part tag mark.0 mark.1)
    (t, rest) e in
    let m = lawful_four.takes bytes a.0.0 a.0.1 fits a.1 in
    let body = body_takes room part law tag a.0.0 m.1 a.0.1 t rest m.0.rest_fits a.2 in
    node_takes b (stmt_byte tag) a.0.0 bytes a.0.1 t rest (stmt_byte_is b tag is) m.0 body

-- a statement whose parts are read back
spelled_at : ℕ → Decoder Statement → List ℕ → Result (Statement × List ℕ) Breach
spelled_at room part bytes =
    byte_at bytes >>= λ tag. stmt_behind_tag (exp_at room) part bytes (stmt_tag_of tag.0) tag.1

stmt_takes : (room : ℕ) (part : Decoder Statement) (law : Lawful part stmt (StmtFits room))
    (bytes : List ℕ) (t : Statement) (rest : List ℕ) → IsBytes bytes
    → spelled_at room part bytes ≡ Ok (t, rest) → Takes bytes (stmt t) rest × StmtFits (suc room) t
unfolding spelled_at
stmt_takes room part law [] t rest fits e = absurd cc
stmt_takes room part law (b ∷ bytes) t rest fits e =
    tagged_takes room part law (b ∷ bytes) b (stmt_tag_of b) refl bytes t rest
    (IsBytes-rest b bytes fits) e

-- behind a tag and a mark the rest is read
at_body : (room : ℕ) (part : Decoder Statement) (tag : StmtTag) (mark : ℕ) (text rest : List ℕ)
    → mark < 2 ^ 32 → spelled_at room part (node (stmt_byte tag) mark text ++ rest)
    ≡ stmt_body_at (exp_at room) part tag mark (text ++ rest)
unfolding spelled_at
at_body room part tag mark text rest lt =
    let whole = node (stmt_byte tag) mark text ++ rest in
    ap (λ (o : Option StmtTag). stmt_behind_tag (exp_at room) part whole o
    ((four mark ++ text) ++ rest)) (stmt_tag_back tag)
    ∙ ap (stmt_behind_tag (exp_at room) part whole (Some tag)) (append_assoc (four mark) text rest)
    ∙ rw (lawful_four.again mark (text ++ rest) lt) refl

stmt_again : (room : ℕ) (part : Decoder Statement) (law : Lawful part stmt (StmtFits room))
    (t : Statement) (rest : List ℕ) → StmtFits (suc room) t
    → spelled_at room part (stmt t ++ rest) ≡ Ok (t, rest)
stmt_again room part law (trees.Block mark body) rest h =
    at_body room part tags.Block mark (eight (count_stmts body) ++ stmts body) rest h.0
    ∙ made_again (lawful_stmts room law) (trees.Block mark) body rest h.1
stmt_again room part law (trees.If mark c t e) rest h =
    at_body room part tags.If mark (exp c ++ (stmt t ++ stmt e)) rest h.0
    ∙ made_again (lawful_pair (lawful_exp room) (lawful_pair law law))
    (λ x. trees.If mark x.0 x.1.0 x.1.1) (c, (t, e)) rest h.1
stmt_again room part law (trees.While mark c body) rest h =
    at_body room part tags.While mark (exp c ++ stmt body) rest h.0
    ∙ made_again (lawful_pair (lawful_exp room) law) (λ x. trees.While mark x.0 x.1)
    (c, body) rest h.1
stmt_again room part law (trees.Print mark value) rest h =
    at_body room part tags.Print mark (exp value) rest h.0
    ∙ made_again (lawful_exp room) (trees.Print mark) value rest h.1
stmt_again room part law (trees.Assign mark n name_mark value) rest h =
    at_body room part tags.Assign mark (name n ++ (four name_mark ++ exp value)) rest h.0
    ∙ made_again (lawful_pair lawful_name (lawful_pair lawful_four (lawful_exp room)))
    (λ x. trees.Assign mark x.0 x.1.0 x.1.1) (n, (name_mark, value)) rest h.1
stmt_again room part law (trees.Store mark n name_mark index value) rest h =
    at_body room part tags.Store mark
    (name n ++ (four name_mark ++ (exp index ++ exp value))) rest h.0
    ∙ made_again (lawful_pair lawful_name
    (lawful_pair lawful_four (lawful_pair (lawful_exp room) (lawful_exp room))))
    (λ x. trees.Store mark x.0 x.1.0 x.1.1.0 x.1.1.1) (n, (name_mark, (index, value))) rest h.1

never : (bytes : List ℕ) (t : Statement) (rest : List ℕ) → stmt_at 0 bytes ≡ Ok (t, rest) → ⊥
unfolding stmt_at
never [] t rest e = cc
never (b ∷ bytes) t rest e = cc

pub lawful_stmt : (room : ℕ) → Lawful (stmt_at room) stmt (StmtFits room)
unfolding stmt_at spelled_at
lawful_stmt zero = record {
  takes = λ bytes t rest fits e. absurd (never bytes t rest e);
  again = λ t rest h. absurd h;
}
lawful_stmt (suc room) = record {
  takes = stmt_takes room (stmt_at room) (lawful_stmt room);
  again = stmt_again room (stmt_at room) (lawful_stmt room);
}
