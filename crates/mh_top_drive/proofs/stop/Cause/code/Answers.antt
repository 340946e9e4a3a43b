use Rattle.mh_top_drive.proofs.stop.Cause.code.Goals as goal

pub returns-in-Refused : goal.returns-in-Refused
returns-in-Refused c = rw c.in-Refused.is

pub returns-in-Misused : goal.returns-in-Misused
returns-in-Misused c = rw c.in-Misused.is

pub returns-in-Missing : goal.returns-in-Missing
returns-in-Missing c = rw c.in-Missing.is

pub returns-in-LongFile : goal.returns-in-LongFile
returns-in-LongFile c = rw c.in-LongFile.is

pub returns-in-LongInput : goal.returns-in-LongInput
returns-in-LongInput c = rw c.in-LongInput.is
