use Rattle.pages.specs.Reading.{text_word_of}
use Rattle.pages.proofs.reading.word.Goals as goal

pub returns : goal.returns
unfolding text_word_of
returns c = rw (← c.past_words.ensures) c.first.ensures
