-- Methods, classes and files: what is read is spelled there, and each spelling is read back.
use Rattle.std.proofs.Common.{◌≡◌, ℕ, zero, suc, ◌<◌, ◌^◌, List, [], ◌∷◌, ◌++◌, Ok, refl}
use Rattle.mj_tree.specs.Trees.{Method}
use Rattle.byte_readers.specs.Spelling.{eight}
use Rattle.byte_readers.specs.Reading.{any}
use Rattle.byte_readers.specs.Lawful.{IsBytes, Takes, Lawful}
use Rattle.byte_readers.specs.Laws.{IsBytes-rest, takes_behind, lawful_name, lawful_four, lawful_pair, lawful_option, lawful_list, lawful_made, lawful_where, any_admits}
use Rattle.tree_spelling.specs.Spelling.{exp, stmt, stmts, count_stmts, method, tagged_method, main, class, file}
use Rattle.mj_tree.specs.Limits.{most_levels}
use Rattle.tree_spelling.specs.Storable.{TopStmtFits, TopStmtsFit, TopExpFits, MethodFits, MainFits, ClassFits, FileFits}
use Rattle.tree_spelling.specs.Reading.{top_stmt_at, top_stmts_at, top_exp_at, made_method, method_at, tagged_method_at, made_main, main_at, made_class, class_at, made_file, file_at}
use Rattle.tree_spelling.specs.TypeLaws.{lawful_ty, lawful_field, lawful_variable}
use Rattle.tree_spelling.specs.ExpLaws.{lawful_exp}
use Rattle.tree_spelling.specs.StmtLaws.{lawful_stmt, lawful_stmts}

pub lawful_top_stmt : Lawful top_stmt_at stmt TopStmtFits
unfolding top_stmt_at TopStmtFits
lawful_top_stmt = lawful_stmt most_levels

lawful_top_stmts : Lawful top_stmts_at (λ ss. eight (count_stmts ss) ++ stmts ss)
    (λ ss. (count_stmts ss < 2 ^ 64) × TopStmtsFit ss)
unfolding top_stmts_at TopStmtsFit
lawful_top_stmts = lawful_stmts most_levels (lawful_stmt most_levels)

lawful_top_exp : Lawful top_exp_at exp TopExpFits
unfolding top_exp_at TopExpFits
lawful_top_exp = lawful_exp most_levels

pub lawful_method : Lawful method_at method MethodFits
unfolding method_at method
lawful_method =
    lawful_where
    (lawful_made
    (lawful_pair lawful_name (lawful_pair lawful_ty
    (lawful_pair (lawful_list lawful_variable any)
    (lawful_pair (lawful_list lawful_variable any)
    (lawful_pair lawful_top_stmts (lawful_pair lawful_top_exp lawful_four))))))
    made_method (λ m. (
      m.name,
      (
        m.returns,
        (m.formals, (m.locals, (m.body, (m.returned, m.return_mark)))),
      ),
    )) (λ _. refl) (λ _. refl))
    (λ m h. record {
      name = h.0;
      returns = h.1.0;
      few_formals = h.1.1.0.few;
      formals = h.1.1.0.fit;
      few_locals = h.1.1.1.0.few;
      locals = h.1.1.1.0.fit;
      few_statements = h.1.1.1.1.0.0;
      body = h.1.1.1.1.0.1;
      returned = h.1.1.1.1.1.0;
      return_mark = h.1.1.1.1.1.1;
    })
    (λ m h. (
      h.name,
      (
        h.returns,
        (
          record {
            few = h.few_formals;
            fit = h.formals;
            admitted = any_admits [] m.formals;
          },
          (
            record { few = h.few_locals; fit = h.locals; admitted = any_admits [] m.locals },
            ((h.few_statements, h.body), (h.returned, h.return_mark)),
          ),
        ),
      ),
    ))

tagged_takes : (bytes : List ℕ) (m : Method) (rest : List ℕ) → IsBytes bytes
    → tagged_method_at bytes ≡ Ok (m, rest) → Takes bytes (tagged_method m) rest × MethodFits m
unfolding tagged_method_at
tagged_takes [] m rest fits e = absurd cc
tagged_takes (zero ∷ bytes) m rest fits e = absurd cc
tagged_takes (suc zero ∷ bytes) m rest fits e =
    let t =
    lawful_method.takes bytes m rest (IsBytes-rest 1 bytes fits) e in
    (takes_behind 1 bytes (method m) rest t.0, t.1)
tagged_takes (suc (suc b) ∷ bytes) m rest fits e = absurd cc

pub lawful_tagged : Lawful tagged_method_at tagged_method MethodFits
unfolding tagged_method_at
lawful_tagged = record { takes = tagged_takes; again = λ m rest h. lawful_method.again m rest h }

pub lawful_main : Lawful main_at main MainFits
unfolding main_at
lawful_main =
    lawful_where (lawful_made (lawful_pair lawful_name lawful_top_stmt) made_main
    (λ m. (m.name, m.statement)) (λ _. refl) (λ _. refl))
    (λ m h. record { name = h.0; statement = h.1 }) (λ m h. (h.name, h.statement))

pub lawful_class : Lawful class_at class ClassFits
unfolding class_at class
lawful_class =
    lawful_where
    (lawful_made (lawful_pair lawful_name
    (lawful_pair (lawful_option lawful_name)
    (lawful_pair (lawful_list lawful_field any) (lawful_list lawful_tagged any)))) made_class
    (λ c. (c.name, (c.superclass, (c.fields, c.methods)))) (λ _. refl) (λ _. refl))
    (λ c h. record {
      name = h.0;
      superclass = h.1.0;
      few_fields = h.1.1.0.few;
      fields = h.1.1.0.fit;
      few_methods = h.1.1.1.few;
      methods = h.1.1.1.fit;
    })
    (λ c h. (
      h.name,
      (
        h.superclass,
        (
          record { few = h.few_fields; fit = h.fields; admitted = any_admits [] c.fields },
          record { few = h.few_methods; fit = h.methods; admitted = any_admits [] c.methods },
        ),
      ),
    ))

pub lawful_file : Lawful file_at file FileFits
unfolding file_at file
lawful_file =
    lawful_where (lawful_made (lawful_pair (lawful_option lawful_main)
    (lawful_list lawful_class any)) made_file (λ f. (f.main, f.classes)) (λ _. refl) (λ _. refl))
    (λ f h. record { main = h.0; few = h.1.few; classes = h.1.fit })
    (λ f h. (h.main, record { few = h.few; fit = h.classes; admitted = any_admits [] f.classes }))
