-- What contracts see of a phrase.
use Rattle.run_fixtures.specs.Phrases.{Phrase as SpecPhrase, Named, Called, phrases_of}
use Rattle.run_fixtures.specs.declared.sample.phrase.Phrase.{Phrase, fold-Phrase}
use Rattle.run_fixtures.specs.declared.sample.phrase.Phrase.TheOpen.{Phrase-F, Name, Call}

abbrev pub view_step : Phrase-F SpecPhrase → SpecPhrase
view_step (Name n) = Named n
view_step (Call e rest) = Called e.value (phrases_of rest.items)

abbrev pub view_of : Phrase → SpecPhrase
view_of e = fold-Phrase SpecPhrase view_step e
