use Rattle.cap_narrow.proofs.Gpus.{texts_without_least_gpus, texts_without_gpus, refreshes_ask_none, openings_have_none}
use Rattle.cap_narrow.proofs.laws.texts_ask_for_no_gpu.Goals as goal

pub returns : goal.returns
returns c = record { least = texts_without_least_gpus; texts = texts_without_gpus; refreshes = refreshes_ask_none; openings = openings_have_none }
