-- Where the words `class` and `public` stand in the main class.
use Rattle.std.proofs.Common.{◌≡◌, ◌+◌, Bool, true, false, ◌&&◌, is_some, List, [], ◌∷◌, drop, Option, Some, None, refl, sym, ◌∙◌, arith, codes}
use Rattle.mj_lexer.specs.declared.token.Token.{Token}
use Rattle.mj_lexer.specs.declared.token.Terminal.TheVariants as terminals
use Rattle.mj_tree.specs.Trees.{Name, Main}
use Rattle.mj_expressions.specs.Tokens.{has, says, name_at}
use Rattle.mj_parser.specs.Statements.{stmt_size}
use Rattle.mj_parser.specs.Declarations.{main_head, main_parameter, IsMain, main_size}
use Rattle.mj_parser.proofs.FileAgain.{has_drop}
use Rattle.mj_expressions.proofs.Marks.{has_other, says_name}
use Rattle.mj_expressions.proofs.Stands.{has_is, stands}
use Rattle.place_laws.proofs.Runs.{along_one, along_map, upto, join, run, run_join, Lacks, lacks_run, front_run, name_drop}
use Rattle.place_laws.proofs.Quiet.{Quiet, sign, word, said, six_parts, statement_quiet}
use Rattle.place_laws.proofs.Classes.{quiet_drop, front_drop}

head_parts : (a b c d e : Bool) → (a && b && c && d && e) ≡ true → (a ≡ true) × (b ≡ true) × (c ≡ true) × (d ≡ true) × (e ≡ true)
head_parts true true true true true h = (refl, refl, refl, refl, refl)
head_parts true true true true false h = absurd cc
head_parts true true true false e h = absurd cc
head_parts true true false d e h = absurd cc
head_parts true false c d e h = absurd cc
head_parts false b c d e h = absurd cc

some_name : (o : Option Name) → is_some o ≡ true → (name : Name) × (o ≡ Some name)
some_name None h = absurd cc
some_name (Some name) h = (name, refl)

-- `public static void main (`
record HasHead (ts : List Token) : Type 0 where
  pub public_word : has ts 0 terminals.Public ≡ true
  pub static_word : has ts 1 terminals.Static ≡ true
  pub name : name_at ts 3 ≡ Some (codes "main")
  pub behind : Quiet ts 1 5

head_of : (ts : List Token) → main_head ts ≡ true → HasHead ts
head_of ts h =
    let p = head_parts (has ts 0 terminals.Public) (has ts 1 terminals.Static) (has ts 2 terminals.Void) (says ts 3 (codes "main")) (has ts 4 terminals.LeftParenthesis) h in
    let static_word = sign ts 1 terminals.Static (stands ts 1 terminals.Static p.1) refl refl in
    let void_word = sign ts 2 terminals.Void (stands ts 2 terminals.Void p.2) refl refl in
    let named = join (said ts 3 (codes "main") p.3) (sign ts 4 terminals.LeftParenthesis (stands ts 4 terminals.LeftParenthesis p.4) refl refl) (omega arith) in
    record {
      public_word = p.0;
      static_word = p.1;
      name = says_name ts 3 (codes "main") p.3;
      behind = join static_word (join void_word named (omega arith)) (omega arith);
    }

parameter_quiet : (ts : List Token) → main_parameter ts ≡ true → Quiet ts 5 11
parameter_quiet ts h =
    let p = six_parts (says ts 5 (codes "String")) (has ts 6 terminals.LeftBracket) (has ts 7 terminals.RightBracket) (is_some (name_at ts 8)) (has ts 9 terminals.RightParenthesis) (has ts 10 terminals.LeftBrace) h in
    let name = some_name (name_at ts 8) p.3 in
    let brackets = join (sign ts 6 terminals.LeftBracket (stands ts 6 terminals.LeftBracket p.1) refl refl) (sign ts 7 terminals.RightBracket (stands ts 7 terminals.RightBracket p.2) refl refl) (omega arith) in
    let closing = join (sign ts 9 terminals.RightParenthesis (stands ts 9 terminals.RightParenthesis p.4) refl refl) (sign ts 10 terminals.LeftBrace (stands ts 10 terminals.LeftBrace p.5) refl refl) (omega arith) in
    join (said ts 5 (codes "String") p.0) (join brackets (join (word ts 8 name.0 name.1) closing (omega arith)) (omega arith)) (omega arith)

module _ (ts : List Token) (m : Main) (h : IsMain ts m) where
  pub main_public : has ts 3 terminals.Public ≡ true
  main_public = front_drop ts 3 terminals.Public (head_of (drop 3 ts) h.head).public_word

  pub main_static : has ts 4 terminals.Static ≡ true
  main_static = sym (has_drop ts 3 1 terminals.Static) ∙ (head_of (drop 3 ts) h.head).static_word

  pub main_word : name_at ts 6 ≡ Some (codes "main")
  main_word = sym (name_drop ts 3 3) ∙ (head_of (drop 3 ts) h.head).name

  method_behind : Quiet (drop 3 ts) 1 (11 + stmt_size m.statement + 2)
  method_behind =
      let braces = join (sign (drop 3 ts) (11 + stmt_size m.statement) terminals.RightBrace h.end_brace refl refl) (sign (drop 3 ts) (11 + stmt_size m.statement + 1) terminals.RightBrace h.end_class refl refl) (omega arith) in
      let inner = join (statement_quiet (drop 3 ts) 11 m.statement h.statement) braces (omega arith) in
      let front = join (head_of (drop 3 ts) h.head).behind (parameter_quiet (drop 3 ts) h.parameter) (omega arith) in
      upto (join front inner (omega arith)) (omega arith)

  main_behind : Quiet ts 4 (main_size m)
  main_behind = quiet_drop ts 3 1 (11 + stmt_size m.statement + 2) method_behind

  main_front : Quiet ts 1 3
  main_front = join (word ts 1 m.name h.name) (sign ts 2 terminals.LeftBrace h.brace refl refl) (omega arith)

  pub main_lacks : Lacks ts terminals.Class 1 (main_size m)
  main_lacks =
      let third : Lacks ts terminals.Class 3 4 = along_one 3 (has_other ts 3 terminals.Public terminals.Class main_public refl) in
      join (along_map (λ at q. q.0) main_front) (join third (along_map (λ at q. q.0) main_behind) (omega arith)) (omega arith)

  pub main_run : run ts terminals.Class 0 (main_size m) ≡ 0 ∷ []
  main_run = front_run ts terminals.Class 0 (main_size m) (has_is ts 0 terminals.Class h.class_word) (omega arith) (upto main_lacks (omega arith))

  pub main_publics : run ts terminals.Public 0 (main_size m) ≡ 3 ∷ []
  main_publics =
      let first : Lacks ts terminals.Public 0 1 = along_one 0 (has_other ts 0 terminals.Class terminals.Public (has_is ts 0 terminals.Class h.class_word) refl) in
      let front : Lacks ts terminals.Public 0 3 = join first (along_map (λ at q. q.1) main_front) (omega arith) in
      let none = lacks_run ts terminals.Public 0 3 front in
      let one = front_run ts terminals.Public 3 (11 + stmt_size m.statement + 2) main_public (omega arith) (along_map (λ at q. q.1) main_behind) in
      run_join ts terminals.Public 0 3 3 (11 + stmt_size m.statement + 2) (main_size m) [] (3 ∷ []) refl refl none one
