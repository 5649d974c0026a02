-- `memory_words` are the words of the settings' shape.
use Rattle.settings.proofs.SettingsLaws.{shape_of_accepted}
use native.Mathlib.Omega.{arith}
use Rattle.store.proofs.words.memory_words.Goals as goal

pub words_in-requires : goal.words_in-requires
words_in-requires c = shape_of_accepted _ c.requires (omega (arith, c.well_formed)) c.shape.ensures

pub returns : goal.returns
returns c = rw (c.words_in.ensures, c.shape.ensures)
