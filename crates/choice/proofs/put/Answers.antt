use Rattle.choice.proofs.Offers.{put_none, put_one}
use Rattle.choice.proofs.put.Goals as goal

pub bounds-out-m : goal.bounds-out-m
bounds-out-m c = (put_one _ _ c.args.out.now c.args.m c.in-Some.is c.requires).0

pub returns-in-Some : goal.returns-in-Some
returns-in-Some c = (put_one _ _ _ _ c.in-Some.is c.requires).1

pub returns-in-None : goal.returns-in-None
returns-in-None c = put_none _ _ _ c.in-None.is
