use Rattle.hourly_promises.proofs.Hex.{number_upper}
use Rattle.hourly_promises.proofs.csv_text.numbers_told.Goals as goal

pub returns-clause-upper : goal.returns-clause-upper
returns-clause-upper c = λ number k d h. number_upper number k d h
