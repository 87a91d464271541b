mod Captions
