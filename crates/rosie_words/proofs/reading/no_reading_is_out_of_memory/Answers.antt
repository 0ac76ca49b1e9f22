use Rattle.rosie_words.proofs.Memory.{reading_lacks}
use Rattle.rosie_words.proofs.reading.no_reading_is_out_of_memory.Goals as goal

pub returns : goal.returns
returns c = reading_lacks
