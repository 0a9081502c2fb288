-- What was read, by what cutting into tokens gives.
use Rattle.std.proofs.Common.{◌≡◌, ◌∙◌, ℕ, List, [], length, None, Ok, Err, Result, Vec, IfOk, sym, ap, subst}
use Rattle.std.specs.Prelude.{unwrap_or}
use Rattle.std.specs.declared.alloc.Global.{Global}
use Rattle.std.specs.Result.{result_ok, result_err}
use Rattle.mj_lexer.specs.declared.token.Token.{Token}
use Rattle.mj_lexer.specs.declared.lexer.LexFault.{LexFault}
use Rattle.mj_lexer.specs.Lexing.{Lexing, lexing_of}
use Rattle.file_index.specs.declared.reading.ReadFile.{ReadFile}
use Rattle.file_index.specs.Reading.{lexing_stop, IsTokenStop, IsTreeOf, IsReading}

same_tokens : (text : List ℕ) (ts us : List Token) → lexing_of text ≡ Ok ts → lexing_of text ≡ Ok us → ts ≡ us
same_tokens text ts us e f = ap (λ (r : Lexing). unwrap_or (result_ok r) []) (sym e ∙ f)

ok_err : (text : List ℕ) (ts : List Token) (fault : LexFault) → lexing_of text ≡ Ok ts → lexing_of text ≡ Err fault → ⊥
ok_err text ts fault e f = let both = sym e ∙ f in absurd cc

-- a text that is cut into tokens
pub cut : (text : List ℕ) (ts : List Token) (file : ReadFile) → lexing_of text ≡ Ok ts → file.tokens.items ≡ ts
    → IsTreeOf ts file.tree → IsTokenStop ts (length text) file.stop → IsReading text file
cut text ts file e tokens tree stop = record {
  tokens = tokens ∙ sym (ap (λ (r : Lexing). unwrap_or (result_ok r) []) e);
  tree = λ us f. subst (λ (vs : List Token). IsTreeOf vs file.tree) (same_tokens text ts us e f) tree;
  no_tree = λ fault f. absurd (ok_err text ts fault e f);
  stop = record {
    cut = λ us f. subst (λ (vs : List Token). IsTokenStop vs (length text) file.stop) (same_tokens text ts us e f) stop;
    uncut = λ fault f. absurd (ok_err text ts fault e f);
  };
}

same_fault : (text : List ℕ) (f g : LexFault) → lexing_of text ≡ Err f → lexing_of text ≡ Err g → f ≡ g
same_fault text f g d e = ap (λ (r : Lexing). unwrap_or (result_err r) f) (sym d ∙ e)

-- a text that isn't
pub uncut : (text : List ℕ) (fault : LexFault) (file : ReadFile) → lexing_of text ≡ Err fault → file.tokens.items ≡ []
    → file.tree ≡ None → file.stop ≡ lexing_stop fault → IsReading text file
uncut text fault file e tokens tree stop = record {
  tokens = tokens ∙ sym (ap (λ (r : Lexing). unwrap_or (result_ok r) []) e);
  tree = λ us f. absurd (ok_err text us fault f e);
  no_tree = λ other f. tree;
  stop = record {
    cut = λ us f. absurd (ok_err text us fault f e);
    uncut = λ other f. stop ∙ ap lexing_stop (same_fault text fault other e f);
  };
}

-- ---- the same of what a call gives

pub cut_call : {E : Type 0} (text : List ℕ) (tokens : Vec Token Global) (end : ℕ) (r : Result ReadFile E) → lexing_of text ≡ Ok tokens.items → end ≡ length text
    → IfOk r (λ file. file.tokens ≡ tokens) → IfOk r (λ file. IsTreeOf tokens.items file.tree) → IfOk r (λ file. IsTokenStop tokens.items end file.stop) → IfOk r (IsReading text)
cut_call text tokens end (Ok file) e all same tree stop =
    cut text tokens.items file e (ap (λ (v : Vec Token Global). v.items) same) tree (subst (λ (n : ℕ). IsTokenStop tokens.items n file.stop) all stop)
cut_call text tokens end (Err e) lexed all same tree stop = tt

pub uncut_call : {E P : Type 0} (text : List ℕ) (fault : LexFault) (r : Result ReadFile E) → (P → lexing_of text ≡ Err fault)
    → IfOk r (λ file. file.tokens.items ≡ []) → IfOk r (λ file. file.tree ≡ None) → IfOk r (λ file. file.stop ≡ lexing_stop fault) → IfOk r (λ _. P) → IfOk r (IsReading text)
uncut_call text fault (Ok file) lexed tokens tree stop other = uncut text fault file (lexed other) tokens tree stop
uncut_call text fault (Err e) lexed tokens tree stop other = tt
