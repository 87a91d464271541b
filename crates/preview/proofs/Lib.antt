mod Drawing
mod Ending
mod Planning
