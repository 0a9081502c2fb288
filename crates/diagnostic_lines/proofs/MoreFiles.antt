-- What is kept of one file more.
use Rattle.std.proofs.Common.{◌≡◌, ◌∙◌, ℕ, ◌+◌, ◌<◌, List, [], ◌∷◌, ◌++◌, length, take, get_or, sym, ap, String, Vec, Option}
use Rattle.std.proofs.lemmas.List.{take_more, map-append}
use Rattle.std.specs.declared.alloc.Global.{Global}
use Rattle.mj_tree.specs.Trees.{File}
use Rattle.named_files.specs.Projects.{SourceFile, source_view, sources_view}
use Rattle.mj_rules.specs.Sentences.{file_of, trees_of}

module _ (files : List (String Global × Vec ℕ Global)) (i : ℕ) (file : String Global × Vec ℕ Global) (lt : i < length files) (is : file ≡ get_or files i file) where
  one_more : sources_view (take (i + 1) files) ≡ sources_view (take i files) ++ source_view file ∷ []
  one_more =
      ap sources_view (take_more files i file lt ∙ ap (λ (f : String Global × Vec ℕ Global). take i files ++ f ∷ []) (sym is))
      ∙ map-append source_view (take i files) (file ∷ [])

  pub texts_more : (old new : List SourceFile) → old ≡ sources_view (take i files) → new ≡ old ++ source_view file ∷ [] → new ≡ sources_view (take (i + 1) files)
  texts_more old new so_far added = added ∙ (ap (λ (ts : List SourceFile). ts ++ source_view file ∷ []) so_far ∙ sym one_more)

  pub trees_more : (old new : List (Option File)) → old ≡ trees_of (sources_view (take i files)) → new ≡ old ++ file_of (source_view file).bytes ∷ [] → new ≡ trees_of (sources_view (take (i + 1) files))
  trees_more old new so_far added =
      added
      ∙ (ap (λ (ts : List (Option File)). ts ++ file_of (source_view file).bytes ∷ []) so_far
      ∙ sym (ap trees_of one_more ∙ map-append (λ f. file_of f.bytes) (sources_view (take i files)) (source_view file ∷ [])))
